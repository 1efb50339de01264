use Rattle.std.proofs.{Common.{◌<◌, ◌-◌, inl, inr, arith}, lemmas.Bool.{cases_lt}}
use Rattle.bit_words.proofs.NextNumbers.{low_has, low_none, high_has, high_none}
use Rattle.bit_words.proofs.split_words.next_of_two.Goals as goal

pub returns-then-from-ge64-clause-has : goal.returns-then-from-ge64-clause-has
returns-then-from-ge64-clause-has c = λ lt ws. high_has c.args.low c.args.high ws c.ranges.low.fits c.next_bit-next.result lt (c.next_bit-next.ensures.has (omega (arith, lt)))

pub returns-then-from-ge64-clause-none : goal.returns-then-from-ge64-clause-none
returns-then-from-ge64-clause-none c = λ k above below ws.
    high_none c.args.low c.args.high ws c.ranges.low.fits (c.args.from - 64) c.next_bit-next.result c.next_bit-next.ensures.few c.next_bit-next.ensures.none k (omega (arith, above, c.if-from-ge64.true)) below

pub returns-then-number-lt64-clause-has : goal.returns-then-number-lt64-clause-has
returns-then-number-lt64-clause-has c = λ lt ws.
    low_has c.args.low c.args.high ws c.ranges.low.fits c.next_bit-number.result (omega (arith, c.if-number-lt64.true)) (c.next_bit-number.ensures.has (omega (arith, c.if-number-lt64.true)))

pub returns-then-number-lt64-clause-none : goal.returns-then-number-lt64-clause-none
returns-then-number-lt64-clause-none c = λ k above below ws.
    low_none c.args.low c.args.high ws c.ranges.low.fits c.next_bit-number.result k c.next_bit-number.ensures.few below (c.next_bit-number.ensures.none k above below)

pub returns-clause-has : goal.returns-clause-has
returns-clause-has c = λ lt ws. high_has c.args.low c.args.high ws c.ranges.low.fits c.next_bit-next-2.result lt (c.next_bit-next-2.ensures.has (omega (arith, lt)))

pub returns-clause-none : goal.returns-clause-none
returns-clause-none c = λ k above below ws. elim (cases_lt k 64) [
  | inl lt ↦
      (let more : k < c.next_bit-number.result = omega (arith, lt, c.if-number-lt64.false) in
      low_none c.args.low c.args.high ws c.ranges.low.fits c.next_bit-number.result k c.next_bit-number.ensures.few more (c.next_bit-number.ensures.none k above more))
  | inr le ↦ high_none c.args.low c.args.high ws c.ranges.low.fits 0 c.next_bit-next-2.result c.next_bit-next-2.ensures.few c.next_bit-next-2.ensures.none k (omega (arith, le)) below
]
