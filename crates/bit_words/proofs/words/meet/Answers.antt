use Rattle.std.proofs.Common.{◌≢◌, ◌<◌, length, get_or, ap, arith}
use Rattle.std.specs.Prelude.{bit_and}
use Rattle.bit_words.specs.Words.{bits_of_words}
use Rattle.bit_words.proofs.OtherWords.{none_in_both, some_in_both, met, unmet}
use Rattle.bit_words.proofs.words.meet.Goals as goal

pub returns-then-words-place-ne0 : goal.returns-then-words-place-ne0
returns-then-words-place-ne0 c =
    let words = c.args.words.now in
    let other = c.args.other.now in
    let place = c.loop-place.place in
    let lt : place < length words = c.loop-place-test.true in
    let its = ap (bit_and (get_or words place 0)) c.word_at.ensures.word in
    let some : bit_and (get_or words place 0) (get_or other place 0) ≢ 0 = (λ e. omega (arith, e, its, c.if-words-place-ne0.true)) in
    met (bit_and (bits_of_words words) (bits_of_words other)) (some_in_both words other c.are_words.ensures c.are_words-2.ensures place lt some)

pub returns : goal.returns
returns c =
    let words = c.args.words.now in
    let other = c.args.other.now in
    unmet (bit_and (bits_of_words words) (bits_of_words other))
    (none_in_both words other c.are_words.ensures c.are_words-2.ensures (λ i lt. c.loop-place.invariant i (omega (arith, lt, c.loop-place-test.false))))
