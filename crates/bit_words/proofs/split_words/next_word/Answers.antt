use Rattle.std.proofs.Common.{◌≡◌, ◌+◌, ◌*◌, ◌-◌, ◌∷◌, ap, ◌∙◌, arith}
use Rattle.std.proofs.Common.{inl, inr}
use Rattle.std.proofs.lemmas.Bool.{cases_lt}
use Rattle.bit_words.specs.Words.{bits_of_words}
use Rattle.bit_words.proofs.FirstWords.{has_high}
use Rattle.bit_words.proofs.CursorLaws.{at_later, whole_word, none_high}
use Rattle.bit_words.proofs.split_words.next_word.Goals as goal
use Rattle.osek_values.specs.Bits.{has_bit}

pub returns-then-from-gt1-clause-some : goal.returns-then-from-gt1-clause-some
returns-then-from-gt1-clause-some c = λ some low fits.
    at_later (bits_of_words (low ∷ c.args.high ∷ c.args.more.now)) (64 * c.args.from) (128 + 64 * (c.args.from - 2)) c.further_word.result (omega arith)
    (λ k above below. absurd (omega (arith, above, below, c.if-from-gt1.true))) (c.further_word.ensures.some some low c.args.high fits c.ranges.high.fits)

pub returns-then-from-gt1-clause-none : goal.returns-then-from-gt1-clause-none
returns-then-from-gt1-clause-none c = λ none low k fits above below.
    c.further_word.ensures.none none low c.args.high k fits c.ranges.high.fits (omega (arith, above, c.if-from-gt1.true)) below

pub returns-then-high-ne0-clause-some : goal.returns-then-high-ne0-clause-some
returns-then-high-ne0-clause-some c = λ some low fits. record {
  up = omega (arith, c.if-from-gt1.false);
  none = λ k above below. absurd (omega (arith, above, below, c.requires));
  before =
      whole_word (bits_of_words (low ∷ c.args.high ∷ c.args.more.now)) 64 c.args.high (omega arith)
      (λ k lt.
      (let same : 64 + k - 64 ≡ k = omega arith in
      has_high low c.args.high c.args.more.now (64 + k) fits (omega arith) (omega (arith, lt)) ∙ ap (has_bit c.args.high) same));
}

pub returns-clause-some : goal.returns-clause-some
returns-clause-some c = λ some low fits.
    at_later (bits_of_words (low ∷ c.args.high ∷ c.args.more.now)) (64 * c.args.from) (128 + 64 * 0) c.further_word-2.result (omega (arith, c.if-from-gt1.false))
    (λ k above below. none_high low c.args.high c.args.more.now fits c.ranges.high.fits c.if-high-ne0.false k (omega (arith, above, c.requires)) (omega (arith, below)))
    (c.further_word-2.ensures.some some low c.args.high fits c.ranges.high.fits)

pub returns-clause-none : goal.returns-clause-none
returns-clause-none c = λ none low k fits above below. elim (cases_lt k 128) [
  | inl lt ↦ none_high low c.args.high c.args.more.now fits c.ranges.high.fits c.if-high-ne0.false k (omega (arith, above, c.requires)) lt
  | inr le ↦ c.further_word-2.ensures.none none low c.args.high k fits c.ranges.high.fits (omega (arith, le)) below
]
