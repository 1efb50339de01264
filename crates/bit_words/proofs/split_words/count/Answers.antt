use Rattle.std.proofs.Common.{rules, ◌+◌, ◌<◌, ◌^◌, arith}
use Rattle.std.specs.Prelude.{count_ones}
use Rattle.bit_words.proofs.FirstWords.{ones_of_two}
use Rattle.bit_words.proofs.split_words.count.Goals as goal

pub count-requires : goal.count-requires
count-requires c = (let all = ones_of_two c.args.low c.args.high c.args.more.now c.ranges.low.fits c.ranges.high.fits in omega (arith, all, c.requires))

pub overflow_add-result-2 : goal.overflow_add-result-2
overflow_add-result-2 c =
    let all = ones_of_two c.args.low c.args.high c.args.more.now c.ranges.low.fits c.ranges.high.fits in
    let fits : count_ones c.args.low + count_ones c.args.high + c.count.result < 2 ^ 64 = omega (arith, all, c.requires, c.count.ensures) in
    search (rules, fits)

pub returns : goal.returns
returns c = (let all = ones_of_two c.args.low c.args.high c.args.more.now c.ranges.low.fits c.ranges.high.fits in omega (arith, all, c.count.ensures))
