use Rattle.std.proofs.{Common.{◌≡◌, ◌*◌, get_or, inl, inr, arith}, lemmas.Bool.{cases_lt}}
use Rattle.bit_words.specs.Words.{bits_of_words}
use Rattle.bit_words.proofs.{SkippedWords.{bit_of_word, none_skipped, none_past}, CursorLaws.{whole_word, no_bit_of}}
use Rattle.bit_words.proofs.words.next_word.Goals as goal

pub loop-place-preserved : goal.loop-place-preserved
loop-place-preserved c = λ k above below.
    let none : get_or c.args.words.now c.loop-place.place 0 ≡ 0 = c.if-words-place-ne0.false in
    none_skipped c.args.words.now c.are_words.ensures (64 * c.args.from) c.loop-place.place 0 64 (omega arith) c.loop-place.invariant (λ i up le. omega (arith, le))
    (λ r le lt. no_bit_of (get_or c.args.words.now c.loop-place.place 0) r none) k above (omega (arith, below))

pub returns-then-words-place-ne0-clause-some : goal.returns-then-words-place-ne0-clause-some
returns-then-words-place-ne0-clause-some c = λ some. record {
  up = omega (arith, c.loop-place.auto.place);
  none = c.loop-place.invariant;
  before =
      whole_word (bits_of_words c.args.words.now) (64 * c.loop-place.place) (get_or c.args.words.now c.loop-place.place 0) (omega arith)
      (bit_of_word c.args.words.now c.are_words.ensures c.loop-place.place);
}

pub returns-clause-none : goal.returns-clause-none
returns-clause-none c = λ _ k above below. elim (cases_lt k (64 * c.loop-place.place)) [
  | inl lt ↦ c.loop-place.invariant k above lt
  | inr le ↦ none_past c.args.words.now c.are_words.ensures k (omega (arith, le, below, c.loop-place-test.false, c.min-end.ensures))
]
