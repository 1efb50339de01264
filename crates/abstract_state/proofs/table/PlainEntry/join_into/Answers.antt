use Rattle.std.proofs.{Common.{rules, ◌<◌, ◌+◌, ◌^◌, length, ap, arith}, lemmas.List.Sums.{sum_by_more, sum_by_more_le}}
use Rattle.abstract_state.specs.Tables.{empty_set, IsPartOfJoin, IsSetBySet}
use Rattle.abstract_state.proofs.EntryJoins.{size, joined_on, stopped, all_joined}
use Rattle.abstract_state.proofs.table.PlainEntry.join_into.Goals as goal

pub returns-in_err-added-clause-err : goal.returns-in_err-added-clause-err
returns-in_err-added-clause-err c =
    let known : c.loop-place.place < length c.loop-place.self.sets = omega (arith, c.loop-place.invariant.0.as_many, c.requires.as_many, c.loop-place-test.true, c.len-place-end.ensures) in
    let part : IsSetBySet IsPartOfJoin c.args.self.now c.args.other.now c.join_set.new.self =
    stopped c.args.self.now c.args.other.now c.loop-place.self c.join_set.new.self c.loop-place.place c.at.result.now known (c.at.ensures.item empty_set)
    c.loop-place.invariant.0 c.requires.ascending c.in_err-added.ensures.err in
    search (rules, part)

pub overflow_add-added : goal.overflow_add-added
overflow_add-added c =
    let known : c.loop-place.place < length c.args.other.now.sets = omega (arith, c.loop-place-test.true, c.len-place-end.ensures) in
    let whole = sum_by_more_le size c.args.other.now.sets c.loop-place.place empty_set known in
    let same = ap size (c.at.ensures.item empty_set) in
    let lt : c.loop-place.added + c.in_ok-added.field-0 < 2 ^ 64 = omega (arith, c.in_ok-added.ensures.few, same, whole, c.loop-place.invariant.2, c.requires.few) in
    search (rules, lt)

pub loop-place-preserved : goal.loop-place-preserved
loop-place-preserved c =
    let there : c.loop-place.place < length c.args.other.now.sets = omega (arith, c.loop-place-test.true, c.len-place-end.ensures) in
    let known : c.loop-place.place < length c.loop-place.self.sets = omega (arith, c.loop-place.invariant.0.as_many, c.requires.as_many, c.loop-place-test.true, c.len-place-end.ensures) in
    let more = sum_by_more size c.args.other.now.sets c.loop-place.place empty_set there in
    let same = ap size (c.at.ensures.item empty_set) in (
      joined_on c.args.self.now c.args.other.now c.loop-place.self c.join_set.new.self c.loop-place.place c.at.result.now known (c.at.ensures.item empty_set) c.loop-place.invariant.0 c.in_ok-added.ensures.set,
      omega (arith, c.in_ok-added.ensures.count, c.loop-place.invariant.1),
      omega (arith, c.in_ok-added.ensures.few, same, more, c.loop-place.invariant.2),
    )

pub returns-clause-entry : goal.returns-clause-entry
returns-clause-entry c =
    all_joined c.args.self.now c.args.other.now c.loop-place.self c.loop-place.place (omega (arith, c.loop-place-test.false, c.len-place-end.ensures, c.loop-place.auto.place-end))
    c.requires.as_many c.requires.ascending c.loop-place.invariant.0
