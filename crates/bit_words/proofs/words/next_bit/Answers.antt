use Rattle.std.proofs.Common.{◌<◌, ◌/◌, ◌^◌, arith}
use Rattle.bit_words.proofs.NextNumbers.{none_up, found_has, found_few, found_none}
use Rattle.bit_words.proofs.words.next_bit.Goals as goal

pub returns-then-rest-eq0-clause-none : goal.returns-then-rest-eq0-clause-none
returns-then-rest-eq0-clause-none c = λ k above below. none_up c.args.word c.args.from (omega (arith, c.if-rest-eq0.true)) k above

pub returns-clause-few : goal.returns-clause-few
returns-clause-few c =
    let some : 0 < c.args.word / 2 ^ c.args.from = omega (arith, c.if-rest-eq0.false) in
    let lt = found_few c.args.word c.args.from c.ranges.word.fits some in
    omega (arith, lt)

pub returns-clause-has : goal.returns-clause-has
returns-clause-has c = λ below. (let some : 0 < c.args.word / 2 ^ c.args.from = omega (arith, c.if-rest-eq0.false) in found_has c.args.word c.args.from c.ranges.word.fits some)

pub returns-clause-none : goal.returns-clause-none
returns-clause-none c = (let some : 0 < c.args.word / 2 ^ c.args.from = omega (arith, c.if-rest-eq0.false) in found_none c.args.word c.args.from c.ranges.word.fits some)
