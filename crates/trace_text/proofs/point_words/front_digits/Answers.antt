use Rattle.std.proofs.Common.{◌≡◌, ℕ, ◌+◌, ◌*◌, get_or, true, refl, sym, ◌∙◌, ap, arith}
use Rattle.std.specs.Char.{is_ascii_digit}
use Rattle.trace_text.proofs.PlainPoints.{one_more, digits_more, small}
use Rattle.trace_text.proofs.point_words.front_digits.Goals as goal

pub overflow_mul-value : goal.overflow_mul-value
overflow_mul-value c =
    let inv = c.loop-count.invariant in
    let low = small c.args.text.now c.loop-count.count c.loop-count.value (omega arith) (omega arith) inv.digits inv.value in
    omega (arith, low)

pub overflow_add-value : goal.overflow_add-value
overflow_add-value c =
    let inv = c.loop-count.invariant in
    let low = small c.args.text.now c.loop-count.count c.loop-count.value (omega arith) (omega arith) inv.digits inv.value in
    omega (arith, low)

pub loop-count-preserved : goal.loop-count-preserved
loop-count-preserved c =
    let inv = c.loop-count.invariant in
    let text = c.args.text.now in
    let i = c.loop-count.count in
    let digit : is_ascii_digit (get_or text i 0) ≡ true = sym c.is_ascii_digit.ensures.value ∙ c.if-not-is_ascii_digit.false in
    record {
      digits = digits_more text i (get_or text i 0) (omega arith) refl digit inv.digits;
      value = ap (λ (n : ℕ). c.loop-count.value * 10 + n) c.from.ensures
          ∙ one_more text i c.loop-count.value (get_or text i 0) (omega arith) (omega arith) refl digit c.if-not-is_ascii_digit.ensures.cases inv.digits
          inv.value;
    }
