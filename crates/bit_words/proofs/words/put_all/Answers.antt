use Rattle.std.proofs.Common.{arith}
use Rattle.bit_words.proofs.WordLaws.{bits_either}
use Rattle.bit_words.proofs.words.put_all.Goals as goal

pub returns : goal.returns
returns c =
    bits_either c.args.words.now c.args.other.now c.loop-place.words c.loop-place.place c.are_words.ensures c.are_words-2.ensures c.loop-place.invariant
    (omega (arith, c.loop-place-test.false))
