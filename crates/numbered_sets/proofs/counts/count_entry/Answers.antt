use Rattle.std.proofs.{Common.{rules, ◌<◌, ◌+◌, ◌^◌, length, get_or, arith}, lemmas.List.{get_or_default, Sums.{sum_by-take-le}}}
use Rattle.numbered_sets.specs.{Numbers.{number_count}, NumberedEntries.{no_set}}
use Rattle.numbered_sets.proofs.CountedNumbers.{counted_more}
use Rattle.numbered_sets.proofs.counts.count_entry.Goals as goal

pub count-found-requires : goal.count-found-requires
count-found-requires c =
    let sets = c.args.entry.now.sets in
    let k = c.loop-component.component in
    let there : k < length sets = omega (arith, c.loop-component-test.true, c.len-component-end.ensures) in
    let x = get_or sets k no_set in
    let more = counted_more number_count sets k x there (get_or_default sets k x no_set there) in
    let all = sum_by-take-le number_count sets (k + 1) in
    omega (arith, more, all, c.requires)

pub overflow_add-found : goal.overflow_add-found
overflow_add-found c =
    let sets = c.args.entry.now.sets in
    let k = c.loop-component.component in
    let there : k < length sets = omega (arith, c.loop-component-test.true, c.len-component-end.ensures) in
    let x = get_or sets k no_set in
    let more = counted_more number_count sets k x there (get_or_default sets k x no_set there) in
    let all = sum_by-take-le number_count sets (k + 1) in
    let fits : c.loop-component.found + c.count-found.result < 2 ^ 64 = omega (arith, c.loop-component.invariant, c.count-found.ensures, more, all, c.requires) in
    search (rules, fits)

pub loop-component-preserved : goal.loop-component-preserved
loop-component-preserved c =
    let sets = c.args.entry.now.sets in
    let k = c.loop-component.component in
    let there : k < length sets = omega (arith, c.loop-component-test.true, c.len-component-end.ensures) in
    let x = get_or sets k no_set in
    let more = counted_more number_count sets k x there (get_or_default sets k x no_set there) in
    omega (arith, c.loop-component.invariant, c.count-found.ensures, more)
