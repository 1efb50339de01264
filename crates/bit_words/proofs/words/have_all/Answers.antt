use Rattle.std.proofs.{Common.{◌≡◌, ap, arith}, lemmas.Bool.{OnTrue_from, eqb-true}}
use Rattle.std.specs.Prelude.{◌==◌, bit_or}
use Rattle.bit_words.specs.Words.{bits_of_words}
use Rattle.bit_words.proofs.{WordLaws.{all_there}, OtherWords.{still_all}}
use Rattle.bit_words.proofs.words.have_all.Goals as goal

pub loop-place-preserved : goal.loop-place-preserved
loop-place-preserved c =
    still_all c.args.words.now c.args.other.now c.loop-place.place c.loop-place.missing (bit_or c.loop-place.missing c.without-missing.result)
    (ap (bit_or c.loop-place.missing) c.without-missing.ensures) c.loop-place.invariant

pub returns-clause-bits : goal.returns-clause-bits
returns-clause-bits c =
    let words = c.args.words.now in
    let other = c.args.other.now in
    OnTrue_from (c.loop-place.missing == 0) (bits_of_words words ≡ bit_or (bits_of_words words) (bits_of_words other)) (λ e.
    all_there words other c.are_words.ensures c.are_words-2.ensures (λ i lt. c.loop-place.invariant (eqb-true c.loop-place.missing 0 e) i (omega (arith, lt, c.loop-place-test.false))))
