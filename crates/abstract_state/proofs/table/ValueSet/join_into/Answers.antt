use Rattle.std.proofs.Common.{rules, ◌∙◌, List, sym, ap, subst}
use Rattle.std.specs.List.{insert}
use Rattle.abstract_state.specs.{declared.value.PartValue.{PartValue}, ValueOrder.{AreBefore, IsAscending}, Tables.{IsPartOfJoin}}
use Rattle.abstract_state.proofs.{JoinLaws.{IsJoinSoFar, join_found, join_put, join_stopped}, table.ValueSet.join_into.Goals.{in-Ok, in-Err+in_ok-put_in-in-Err}}
use Rattle.abstract_state.proofs.table.ValueSet.join_into.Goals as goal

pub search-requires : goal.search-requires
search-requires c = subst (AreBefore c.loop-member.self.members c.loop-member.place) (sym c.member-item.is) (c.loop-member.invariant.passed c.member-item.result c.loop-member-test.true)

pub returns-in_err-put_in-in-Err-clause-err : goal.returns-in_err-put_in-in-Err-clause-err
returns-in_err-put_in-in-Err-clause-err c =
    let so_far =
    subst (λ (xs : List PartValue). IsJoinSoFar c.args.self.now xs c.loop-member.member-index c.loop-member.self c.loop-member.added c.loop-member.place) c.as_slice-member-items.ensures c.loop-member.invariant in
    let part : IsPartOfJoin c.args.self.now c.args.other.now c.put_in.new.self =
    subst (IsPartOfJoin c.args.self.now c.args.other.now) (sym c.in_err-put_in-in-Err.ensures.err)
    (join_stopped c.args.self.now c.args.other.now c.loop-member.self c.loop-member.member-index c.loop-member.added c.loop-member.place so_far) in
    search (rules, part)

pub loop-member-preserved : goal.loop-member-preserved
loop-member-preserved c =
    let a = c.args.self.now in
    let x = c.loop-member.self in
    let items = c.as_slice-member-items.result.now in
    let i = c.loop-member.member-index in
    let n = c.loop-member.added in
    let p = c.loop-member.place in
    let v = c.member-item.result in
    let up : IsAscending items = subst IsAscending (sym c.as_slice-member-items.ensures) c.requires.ascending_too in
    elim c.match-search.branch [
      | in-Ok w ↦
          rw w.self-is (rw w.added-is (rw w.place-is (join_found a x items i n p v up c.loop-member-test.true c.member-item.is c.loop-member.invariant w.in-Ok.found w.in-Ok.ensures.place)))
      | in-Err+in_ok-put_in-in-Err w ↦
          (let put = w.in_ok-put_in-in-Err.ensures.members ∙ ap (insert x.members w.in-Err.gap) w.copy.ensures in
          rw w.self-is (rw w.added-is (rw w.place-is
          (join_put a x items i n p v up c.loop-member-test.true c.member-item.is c.loop-member.invariant w.in-Err.gap w.in-Err.ensures.gap w.put_in.new.self w.in_ok-put_in-in-Err.ensures.domain put))))
    ]
