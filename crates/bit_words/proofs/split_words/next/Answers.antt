use Rattle.std.proofs.{Common.{◌≡◌, ◌+◌, ◌-◌, ap, ◌∙◌, inl, inr, arith}, lemmas.Bool.{cases_lt}}
use Rattle.bit_words.specs.Words.{bits_of_words}
use Rattle.bit_words.proofs.FirstWords.{has_further}
use Rattle.bit_words.proofs.split_words.next.Goals as goal
use Rattle.osek_values.specs.Bits.{has_bit}

pub returns-then-from-ge128-clause-has : goal.returns-then-from-ge128-clause-has
returns-then-from-ge128-clause-has c = λ lt.
    let further = c.next-further.result in
    let same : 128 + further - 128 ≡ further = omega arith in
    has_further c.args.low c.args.high c.args.more.now (128 + further) c.ranges.low.fits c.ranges.high.fits (omega arith)
    ∙ ap (has_bit (bits_of_words c.args.more.now)) same ∙ c.next-further.ensures.has (omega (arith, lt))

pub returns-then-from-ge128-clause-none : goal.returns-then-from-ge128-clause-none
returns-then-from-ge128-clause-none c = λ k above below.
    has_further c.args.low c.args.high c.args.more.now k c.ranges.low.fits c.ranges.high.fits (omega (arith, above, c.if-from-ge128.true))
    ∙ c.next-further.ensures.none (k - 128) (omega (arith, above)) (omega (arith, below, above, c.if-from-ge128.true))

pub returns-clause-has : goal.returns-clause-has
returns-clause-has c = λ lt.
    let further = c.next-further-2.result in
    let same : 128 + further - 128 ≡ further = omega arith in
    has_further c.args.low c.args.high c.args.more.now (128 + further) c.ranges.low.fits c.ranges.high.fits (omega arith)
    ∙ ap (has_bit (bits_of_words c.args.more.now)) same ∙ c.next-further-2.ensures.has (omega (arith, lt))

pub returns-clause-none : goal.returns-clause-none
returns-clause-none c = λ k above below. elim (cases_lt k c.next_of_two-number.result) [
  | inl lt ↦ c.next_of_two-number.ensures.none k above lt c.args.more.now
  | inr le ↦
      has_further c.args.low c.args.high c.args.more.now k c.ranges.low.fits c.ranges.high.fits (omega (arith, le, c.if-number-lt128.false))
      ∙ c.next-further-2.ensures.none (k - 128) (omega (arith, le)) (omega (arith, below, le, c.if-number-lt128.false))
]
