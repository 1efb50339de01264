-- one digit, or the first of several isn't 0
use Rattle.std.proofs.Common.{◌≡◌, ℕ, ◌<◌, ◌≤◌, not, eqb, get_or, sym, ◌∙◌, ap, arith}
use Rattle.std.proofs.lemmas.Bool.{ltb-true, true≢false}
use Rattle.trace_text.proofs.PlainPoints.{written}
use Rattle.trace_text.proofs.point_words.block_of.Goals as goal
use Rattle.trace_text.proofs.point_words.block_of.Goals.{then-digits-eq1, else-digits-eq1+then-digits-gt0, else-digits-eq1+else-digits-gt0}

pub returns-then-digits-len : goal.returns-then-digits-len
returns-then-digits-len c =
    let text = c.args.text.now in
    let n = c.args.digits.count in
    let some : 0 < n = elim c.if-digits-eq1.branch [
      | then-digits-eq1 w ↦ omega arith
      | else-digits-eq1+then-digits-gt0 w ↦ omega arith
      | else-digits-eq1+else-digits-gt0 w ↦ ltb-true 0 n (sym w.is_plain-is ∙ c.if-is_plain.true)
    ] in
    let plain : get_or text 0 0 ≡ 48 → n ≡ 1 = λ e. elim c.if-digits-eq1.branch [
      | then-digits-eq1 w ↦ omega arith
      | else-digits-eq1+then-digits-gt0 w ↦ absurd (true≢false (sym c.if-is_plain.true ∙ w.is_plain-is ∙ ap (λ (k : ℕ). not (eqb k 48)) e))
      | else-digits-eq1+else-digits-gt0 w ↦ let low : n ≤ 0 = omega arith in absurd (omega (arith, some, low))
    ] in
    (omega arith, written text n c.args.digits.value c.requires.within some plain (omega arith) c.requires.digits c.requires.value)
