use Rattle.std.proofs.{Common.{◌*◌, ap, ◌∙◌, inl, inr, arith}, lemmas.Bool.{cases_lt}}
use Rattle.bit_words.specs.Words.{bits_of_words}
use Rattle.bit_words.proofs.SkippedWords.{bit_of_word, none_skipped, none_past}
use Rattle.bit_words.proofs.words.next_in_words.Goals as goal
use Rattle.osek_values.specs.Bits.{has_bit}

pub loop-place-init : goal.loop-place-init
loop-place-init c = λ k above below. absurd (omega (arith, above, below))

pub loop-place-preserved : goal.loop-place-preserved
loop-place-preserved c = λ k above below.
    none_skipped c.args.words.now c.are_words.ensures (64 * c.args.from) c.loop-place.place 0 64 (omega arith) c.loop-place.invariant (λ i up le. omega (arith, le))
    (λ r le lt. c.next_bit-bit.ensures.none r le (omega (arith, lt, c.next_bit-bit.ensures.few, c.if-bit-lt64.false))) k above (omega (arith, below))

pub returns-then-bit-lt64-clause-up : goal.returns-then-bit-lt64-clause-up
returns-then-bit-lt64-clause-up c = λ lt. (let is = c.at_most.ensures.is lt in let up = c.loop-place.auto.place in omega (arith, is, up))

pub returns-then-bit-lt64-clause-has : goal.returns-then-bit-lt64-clause-has
returns-then-bit-lt64-clause-has c = λ lt.
    ap (has_bit (bits_of_words c.args.words.now)) (c.at_most.ensures.is lt)
    ∙ bit_of_word c.args.words.now c.are_words.ensures c.loop-place.place c.next_bit-bit.result c.if-bit-lt64.true ∙ c.next_bit-bit.ensures.has c.if-bit-lt64.true

pub returns-then-bit-lt64-clause-none : goal.returns-then-bit-lt64-clause-none
returns-then-bit-lt64-clause-none c = λ k above below.
    none_skipped c.args.words.now c.are_words.ensures (64 * c.args.from) c.loop-place.place 0 c.next_bit-bit.result c.next_bit-bit.ensures.few c.loop-place.invariant (λ i up le. omega (arith, le))
    c.next_bit-bit.ensures.none k above (omega (arith, below, c.at_most.ensures.number))

pub returns-clause-none : goal.returns-clause-none
returns-clause-none c = λ k above below. elim (cases_lt k (64 * c.loop-place.place)) [
  | inl lt ↦ c.loop-place.invariant k above lt
  | inr le ↦ none_past c.args.words.now c.are_words.ensures k (omega (arith, le, below, c.loop-place-test.false, c.min-end.ensures))
]
