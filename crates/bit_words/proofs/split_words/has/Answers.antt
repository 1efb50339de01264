use Rattle.std.proofs.Common.{◌∷◌, sym, ◌∙◌, arith}
use Rattle.bit_words.proofs.FirstWords.{has_low, has_high, has_further}
use Rattle.bit_words.proofs.split_words.has.Goals as goal

pub returns-then-number-lt64 : goal.returns-then-number-lt64
returns-then-number-lt64 c = c.has_bit.ensures ∙ sym (has_low c.args.low (c.args.high ∷ c.args.more.now) c.args.number (omega (arith, c.if-number-lt64.true)))

pub returns-then-number-lt128 : goal.returns-then-number-lt128
returns-then-number-lt128 c =
    c.has_bit-then-number-lt128.ensures
    ∙ sym (has_high c.args.low c.args.high c.args.more.now c.args.number c.ranges.low.fits (omega (arith, c.if-number-lt64.false)) (omega (arith, c.if-number-lt128.true)))

pub returns : goal.returns
returns c = c.has.ensures ∙ sym (has_further c.args.low c.args.high c.args.more.now c.args.number c.ranges.low.fits c.ranges.high.fits (omega (arith, c.if-number-lt128.false)))
