use Rattle.std.proofs.Common.{◌≡◌, ℕ, List, [], drop, get_or, min, refl, sym, ◌∙◌, ap, arith}
use Rattle.std.proofs.lemmas.List.{drop_all}
use Rattle.trace_text.proofs.PointParts.{read_on, read_value, digit_read}
use Rattle.trace_text.proofs.point_words.value_of.Goals as goal

pub loop-digit-preserved : goal.loop-digit-preserved
loop-digit-preserved c = record {
  whole =
      digit_read c.args.digits.now c.loop-digit.digit-index c.loop-digit.value (get_or c.args.digits.now c.loop-digit.digit-index 0) c.saturating_add-value.result (min (read_on 0 c.args.digits.now) 65535)
      (omega arith) refl (omega arith) c.loop-digit.invariant.whole;
  most = omega arith;
}

pub returns : goal.returns
returns c =
    let ds = c.args.digits.now in
    let rest : drop c.loop-digit.digit-index ds ≡ [] = drop_all c.loop-digit.digit-index ds (omega arith) in
    let whole : min c.loop-digit.value 65535 ≡ min (read_on 0 ds) 65535 = ap (λ (l : List ℕ). min (read_on c.loop-digit.value l) 65535) (sym rest) ∙ c.loop-digit.invariant.whole in
    omega (arith, whole, c.loop-digit.invariant.most, read_value ds c.requires)
