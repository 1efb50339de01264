use Rattle.std.proofs.{Common.{◌+◌, ◌*◌, ◌/◌, ◌%◌, ℕ, sym, ap, ◌∙◌, inl, inr, arith}, lemmas.Bool.{cases_lt}}
use Rattle.bit_words.specs.Words.{bits_of_words}
use Rattle.bit_words.proofs.SkippedWords.{bit_of_word, none_skipped}
use Rattle.bit_words.proofs.words.next.Goals as goal
use Rattle.osek_values.specs.Bits.{has_bit}

pub returns-then-bit-lt64-clause-up : goal.returns-then-bit-lt64-clause-up
returns-then-bit-lt64-clause-up c = c.at_most.ensures.either c.args.from (omega (arith, c.next_bit-bit.ensures.up)) c.requires

pub returns-then-bit-lt64-clause-has : goal.returns-then-bit-lt64-clause-has
returns-then-bit-lt64-clause-has c = λ lt.
    ap (has_bit (bits_of_words c.args.words.now)) (c.at_most.ensures.is lt)
    ∙ bit_of_word c.args.words.now c.are_words.ensures (c.args.from / 64) c.next_bit-bit.result c.if-bit-lt64.true
    ∙ ap (λ (w : ℕ). has_bit w c.next_bit-bit.result) (sym c.word_at.ensures.word) ∙ c.next_bit-bit.ensures.has c.if-bit-lt64.true

pub returns-then-bit-lt64-clause-none : goal.returns-then-bit-lt64-clause-none
returns-then-bit-lt64-clause-none c = λ k above below.
    none_skipped c.args.words.now c.are_words.ensures c.args.from (c.args.from / 64) (c.args.from % 64) c.next_bit-bit.result c.next_bit-bit.ensures.few
    (λ i up lt. absurd (omega (arith, up, lt))) (λ i up le. omega (arith, up, le))
    (λ r le lt. ap (λ (w : ℕ). has_bit w r) (sym c.word_at.ensures.word) ∙ c.next_bit-bit.ensures.none r le lt) k above (omega (arith, below, c.at_most.ensures.number))

pub returns-clause-up : goal.returns-clause-up
returns-clause-up c = elim (cases_lt c.next_in_words.result c.args.below) [
  | inl lt ↦ (let up = c.next_in_words.ensures.up lt in omega (arith, up))
  | inr le ↦ omega (arith, le, c.requires)
]

pub returns-clause-none : goal.returns-clause-none
returns-clause-none c = λ k above below. elim (cases_lt k (64 * (c.args.from / 64 + 1))) [
  | inl lt ↦
      none_skipped c.args.words.now c.are_words.ensures c.args.from (c.args.from / 64) (c.args.from % 64) 64 (omega arith)
      (λ i up less. absurd (omega (arith, up, less))) (λ i up le. omega (arith, up, le))
      (λ r le less. ap (λ (w : ℕ). has_bit w r) (sym c.word_at.ensures.word) ∙ c.next_bit-bit.ensures.none r le (omega (arith, less, c.next_bit-bit.ensures.few, c.if-bit-lt64.false))) k above (omega (arith, lt))
  | inr le ↦ c.next_in_words.ensures.none k le below
]
