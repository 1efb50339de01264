use Rattle.std.proofs.Common.{arith}
use Rattle.bit_words.proofs.KeptWords.{bits_cut}
use Rattle.bit_words.proofs.words.keep.Goals as goal

pub returns : goal.returns
returns c =
    bits_cut c.args.words.now c.args.other.now c.loop-place.words c.loop-place.place
    (omega (arith, c.loop-place-test.false, c.loop-place.invariant.as_long)) c.loop-place.invariant c.are_words.ensures c.are_words-2.ensures
