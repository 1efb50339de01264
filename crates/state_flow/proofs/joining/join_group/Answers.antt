use Rattle.std.proofs.Common.{List, sym, subst}
use Rattle.std.specs.Prelude.{Contains}
use Rattle.osek_standard.specs.declared.point.Point.{Point}
use Rattle.point_exits.specs.{declared.group.{NumberEnd.{NumberEnd}, Ends.{Ends}}, Groups.{AreKnownEnds}}
use Rattle.state_flow.specs.ExitRows.{rows_at, rows_with, rows_by, AreProperRows}
use Rattle.state_flow.proofs.joining.join_group.Goals as goal

pub join_at-requires-clause-proper : goal.join_at-requires-clause-proper
join_at-requires-clause-proper c =
    subst (λ (ps : List Point). AreProperRows c.args.app.now (rows_at c.args.pool.now c.args.group.entry ps)) (sym c.as_slice.ensures)
    (subst (λ (e : Ends). AreProperRows c.args.app.now (rows_by c.args.pool.now c.args.group.entry e)) c.in-At.is c.requires.proper)

pub join_with-requires-clause-ends : goal.join_with-requires-clause-ends
join_with-requires-clause-ends c x m =
    let known = subst (AreKnownEnds c.args.pool.now c.args.group.entry) c.in-With.is c.requires.known.ends in
    known x (subst (λ (xs : List NumberEnd). Contains xs x) c.as_slice-in-With.ensures m)

pub join_with-requires-clause-proper : goal.join_with-requires-clause-proper
join_with-requires-clause-proper c =
    subst (λ (xs : List NumberEnd). AreProperRows c.args.app.now (rows_with c.args.pool.now c.args.group.entry xs)) (sym c.as_slice-in-With.ensures)
    (subst (λ (e : Ends). AreProperRows c.args.app.now (rows_by c.args.pool.now c.args.group.entry e)) c.in-With.is c.requires.proper)
