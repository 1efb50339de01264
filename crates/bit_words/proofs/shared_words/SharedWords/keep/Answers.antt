use Rattle.std.proofs.{Common.{List, ℕ, refl, sym, ap, ◌∙◌}, lemmas.Bool.{eqb-true}}
use Rattle.std.specs.{Prelude.{bit_and, bit_or}, Int.Bits.{and_zero_r}}
use Rattle.bit_words.specs.Words.{bits_of_words}
use Rattle.bit_words.proofs.{FirstWords.{bits_of_none}, KeptWords.{kept_whole}}
use Rattle.bit_words.proofs.shared_words.SharedWords.keep.Goals as goal

pub returns-then-is_empty-clause-bits : goal.returns-then-is_empty-clause-bits
returns-then-is_empty-clause-bits c =
    let none = eqb-true _ 0 (sym c.is_empty.ensures ∙ c.if-is_empty.true) in
    ap bits_of_words c.none.ensures ∙ bits_of_none _ refl
    ∙ sym (ap (bit_and (bits_of_words c.args.self.now)) (bits_of_none c.args.other.now none) ∙ and_zero_r (bits_of_words c.args.self.now))

pub returns-then-have_all-clause-bits : goal.returns-then-have_all-clause-bits
returns-then-have_all-clause-bits c =
    let same = c.as_slice.ensures ∙ c.if-keep_own.ensures.shared in
    ap bits_of_words c.if-keep_own.ensures.shared
    ∙ sym (kept_whole (bits_of_words c.args.self.now) (bits_of_words c.args.other.now)
    (c.if-have_all.ensures.bits ∙ ap (λ (ws : List ℕ). bit_or (bits_of_words c.args.other.now) (bits_of_words ws)) same))
