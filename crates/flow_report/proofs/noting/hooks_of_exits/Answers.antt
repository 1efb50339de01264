use Rattle.std.proofs.{Common.{List, sym, subst, take}, lemmas.List.{take_all, take_more}}
use Rattle.table_rows.specs.declared.bare.BareExit.{BareExit}
use Rattle.flow_report.specs.Noting.{AreHooks, NotesByExit}
use Rattle.flow_report.proofs.NotedHooks.{exits_begun, exit_noted}
use Rattle.flow_report.proofs.noting.hooks_of_exits.Goals as goal

pub loop-exit-init : goal.loop-exit-init
loop-exit-init c = exits_begun c.args.app.now c.args.point c.none-hooks.result c.none-hooks.ensures

pub loop-exit-preserved : goal.loop-exit-preserved
loop-exit-preserved c =
    let xs = c.args.exits.now in
    let i = c.loop-exit.exit-index in
    subst (λ (done : List BareExit). AreHooks (NotesByExit c.args.app.now c.args.point done) c.with-hooks.result) (sym (take_more xs i _ c.loop-exit-test.true))
    (exit_noted c.args.app.now c.args.point (take i xs) _ c.loop-exit.hooks c.hooks_of_exit.result c.with-hooks.result c.hooks_of_exit.ensures c.with-hooks.ensures c.loop-exit.invariant)

pub returns : goal.returns
returns c =
    subst (λ (done : List BareExit). AreHooks (NotesByExit c.args.app.now c.args.point done) c.loop-exit.hooks) (take_all c.loop-exit.exit-index c.args.exits.now c.loop-exit-test.false) c.loop-exit.invariant
