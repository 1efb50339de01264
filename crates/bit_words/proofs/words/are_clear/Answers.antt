use Rattle.std.proofs.{Common.{◌≢◌, ◌<◌, length, get_or, sym, arith}, lemmas.Bool.{eq-eqb, ne_eqb}}
use Rattle.bit_words.specs.Words.{bits_of_words}
use Rattle.bit_words.proofs.KeptWords.{no_bits, some_bits}
use Rattle.bit_words.proofs.words.are_clear.Goals as goal

pub returns-then-word-ne0 : goal.returns-then-word-ne0
returns-then-word-ne0 c =
    let words = c.args.words.now in
    let place = c.loop-word.word-index in
    let lt : place < length words = c.loop-word-test.true in
    let some : get_or words place 0 ≢ 0 = (λ e. omega (arith, e, c.if-word-ne0.true)) in
    sym (ne_eqb (bits_of_words words) 0 (some_bits words place lt some))

pub returns : goal.returns
returns c =
    let words = c.args.words.now in
    sym (eq-eqb (bits_of_words words) 0 (no_bits words (λ i lt. c.loop-word.invariant i (omega (arith, lt, c.loop-word-test.false)))))
