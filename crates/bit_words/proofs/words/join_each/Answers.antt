use Rattle.std.proofs.Common.{rules, ◌<◌, ◌+◌, ◌^◌, length, get_or, set, refl, arith}
use Rattle.std.specs.Prelude.{bit_or}
use Rattle.bit_words.proofs.WordLaws.{AreJoinedUpTo, joined_one_more, joined_either, joined_words, joined_few, joined_count, bits_either, each_joined, small_at}
use Rattle.bit_words.proofs.words.join_each.Goals as goal

pub overflow_add-added : goal.overflow_add-added
overflow_add-added c =
    let before = c.args.words.now in
    let other = c.args.other.now in
    let words = c.loop-place.words in
    let place = c.loop-place.place in
    let there : place < length other = omega (arith, c.loop-place-test.true) in
    let known : place < length words = omega (arith, there, c.requires.room, c.loop-place.invariant.as_long) in
    let small = small_at words place (joined_words before other words place c.loop-place.added c.are_words.ensures c.are_words-2.ensures c.loop-place.invariant) in
    let next : AreJoinedUpTo before other (place + 1) (set words place (bit_or (get_or words place 0) (get_or other place 0))) (c.loop-place.added + c.new_bits-added.result) =
    joined_one_more before other words place c.loop-place.added (get_or words place 0) (get_or other place 0) c.new_bits-added.result
    c.loop-place.invariant known refl refl small (small_at other place c.are_words-2.ensures) c.new_bits-added.ensures.count c.new_bits-added.ensures.few in
    let few = joined_few before other (set words place (bit_or (get_or words place 0) (get_or other place 0))) (place + 1) (c.loop-place.added + c.new_bits-added.result)
    c.are_words.ensures c.are_words-2.ensures next (omega (arith, there)) in
    let fits : c.loop-place.added + c.new_bits-added.result < 2 ^ 64 = omega (arith, few, c.requires.few) in
    search (rules, fits)

pub loop-place-preserved : goal.loop-place-preserved
loop-place-preserved c =
    let before = c.args.words.now in
    let other = c.args.other.now in
    let words = c.loop-place.words in
    let place = c.loop-place.place in
    let known : place < length words = omega (arith, c.loop-place-test.true, c.requires.room, c.loop-place.invariant.as_long) in
    let small = small_at words place (joined_words before other words place c.loop-place.added c.are_words.ensures c.are_words-2.ensures c.loop-place.invariant) in
    joined_one_more before other words place c.loop-place.added (get_or words place 0) (get_or other place 0) c.new_bits-added.result
    c.loop-place.invariant known refl refl small (small_at other place c.are_words-2.ensures) c.new_bits-added.ensures.count c.new_bits-added.ensures.few

pub returns-clause-words : goal.returns-clause-words
returns-clause-words c = each_joined c.args.words.now c.args.other.now c.loop-place.words c.loop-place.place c.loop-place.added c.loop-place-test.false c.loop-place.invariant

pub returns-clause-bits : goal.returns-clause-bits
returns-clause-bits c =
    bits_either c.args.words.now c.args.other.now c.loop-place.words c.loop-place.place c.are_words.ensures c.are_words-2.ensures
    (joined_either c.args.words.now c.args.other.now c.loop-place.words c.loop-place.place c.loop-place.added c.loop-place.invariant) c.loop-place-test.false

pub returns-clause-count : goal.returns-clause-count
returns-clause-count c =
    joined_count c.args.words.now c.args.other.now c.loop-place.words c.loop-place.place c.loop-place.added c.are_words.ensures c.are_words-2.ensures c.loop-place.invariant
    (omega (arith, c.loop-place.auto.place-end, c.requires.room))

pub returns-clause-few : goal.returns-clause-few
returns-clause-few c =
    joined_few c.args.words.now c.args.other.now c.loop-place.words c.loop-place.place c.loop-place.added c.are_words.ensures c.are_words-2.ensures c.loop-place.invariant
    c.loop-place.auto.place-end
