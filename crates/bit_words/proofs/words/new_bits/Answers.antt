use Rattle.std.proofs.Common.{rules, ◌-◌, ◌<◌, ◌^◌, arith}
use Rattle.std.specs.Prelude.{bit_or, count_ones}
use Rattle.std.proofs.lemmas.Nat.{ones_le_self}
use Rattle.bit_words.proofs.WordLaws.{ones_grow, ones_of_either}
use Rattle.bit_words.proofs.words.new_bits.Goals as goal

pub overflow_sub-result : goal.overflow_sub-result
overflow_sub-result c = ones_grow c.args.word c.args.other c.ranges.word.fits c.ranges.other.fits

pub overflow_cast-result : goal.overflow_cast-result
overflow_cast-result c =
    let few = ones_of_either c.args.word c.args.other c.ranges.word.fits c.ranges.other.fits in
    let other : c.args.other < 2 ^ 64 = c.ranges.other.fits in
    let fits : count_ones (bit_or c.args.word c.args.other) - count_ones c.args.word < 2 ^ 64 = omega (arith, few, other, ones_le_self c.args.other) in
    search (rules, fits)

pub returns-clause-count : goal.returns-clause-count
returns-clause-count c = (let more = ones_grow c.args.word c.args.other c.ranges.word.fits c.ranges.other.fits in omega (arith, more))

pub returns-clause-few : goal.returns-clause-few
returns-clause-few c = (let few = ones_of_either c.args.word c.args.other c.ranges.word.fits c.ranges.other.fits in omega (arith, few))
