-- nothing is left after the parts
use Rattle.std.proofs.Common.{◌≡◌, ◌∙◌, ℕ, List, length, Ok, ap, arith}
use Rattle.std.specs.Prelude.{◌==◌}
use Rattle.image_codec.specs.{declared.parts.Parts.{Parts}, ImageReading.{parts_at, all_at}}
use Rattle.image_fields.specs.{declared.fault.ImageRule.TheVariants.{I6}, Reading.{Read, ◌>>=◌, kept}}
use Rattle.image_fields.proofs.Steps.{kept_again}
use Rattle.image_codec.proofs.decoding.all.Goals as goal

whole : (bytes rest : List ℕ) (p : Parts) → parts_at bytes ≡ Ok (p, rest) → length rest ≡ 0 → all_at bytes ≡ Ok (p, rest)
unfolding all_at
whole bytes rest p e none =
    ap (λ (r : Read Parts). r >>= λ x. kept (length x.1 == 0) I6 x.1 x) e
    ∙ kept_again (length rest == 0) I6 rest (p, rest) (ap (λ n. n == 0) none)

pub returns : goal.returns
returns c = whole c.args.reader.now c.parts.new.reader c.in_ok-parts.parts c.in_ok-parts.ensures (omega arith)
