use Rattle.std.proofs.Common.{List, length, sym, subst, ◌∙◌}
use Rattle.std.proofs.lemmas.Iterator.{Adapters.{YieldsList-from_vec}, Consumers.{YieldsList-turn}}
use Rattle.abstract_state.specs.declared.table.TableRow.{TableRow}
use Rattle.state_flow.specs.ExitRows.{all_rows, AreRowsJoined}
use Rattle.state_flow.proofs.ExitJoins.{joined_more, group_rows, group_proper, groups_more}
use Rattle.state_flow.proofs.joining.join_groups.Goals as goal

pub join_group-requires-clause-known : goal.join_group-requires-clause-known
join_group-requires-clause-known c =
    let t = YieldsList-turn (YieldsList-from_vec c.args.groups.items c.into_iter-group-iterator.ensures.into_iter_gives.0 (c.into_iter-group-iterator.ensures.into_iter_gives.1 ∙ c.args.groups.ok.0)) c.loop-group.yielded c.loop-group.group-iterator c.loop-group.yielded_by c.next.result c.next.new.self c.in-Some.group c.in-Some.is c.next.ensures.steps in
    c.requires.known c.in-Some.group (length c.loop-group.yielded, t.0, sym t.1)

pub join_group-requires-clause-proper : goal.join_group-requires-clause-proper
join_group-requires-clause-proper c =
    let t = YieldsList-turn (YieldsList-from_vec c.args.groups.items c.into_iter-group-iterator.ensures.into_iter_gives.0 (c.into_iter-group-iterator.ensures.into_iter_gives.1 ∙ c.args.groups.ok.0)) c.loop-group.yielded c.loop-group.group-iterator c.loop-group.yielded_by c.next.result c.next.new.self c.in-Some.group c.in-Some.is c.next.ensures.steps in
    group_proper c.args.app.now c.args.pool.now c.args.groups.items c.in-Some.group (length c.loop-group.yielded, t.0, sym t.1) c.requires.proper

pub loop-group-preserved : goal.loop-group-preserved
loop-group-preserved c =
    let app = c.args.app.now in
    let pool = c.args.pool.now in
    let done = c.loop-group.yielded in
    let group = c.in-Some.group in
    let after = c.join_group.new.cells.list.items in
    subst (λ (rows : List TableRow). AreRowsJoined app pool c.args.cells.now.list.items rows after) (groups_more pool done group)
    (joined_more app pool c.args.cells.now.list.items c.loop-group.cells.list.items after (all_rows pool done) (group_rows pool group) c.loop-group.invariant c.in_ok-join_group.ensures)
