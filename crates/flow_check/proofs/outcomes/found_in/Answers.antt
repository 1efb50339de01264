use Rattle.std.proofs.{Common.{List, subst, sym, take}, lemmas.List.{take_all, take_more}}
use Rattle.table_rows.specs.declared.bare.BareExit.{BareExit}
use Rattle.flow_check.specs.Outcomes.{AreOfExits}
use Rattle.flow_check.proofs.ExitOutcomes.{findings_of_none}
use Rattle.flow_check.proofs.outcomes.found_in.Goals as goal

pub loop-exit-init : goal.loop-exit-init
loop-exit-init c = findings_of_none c.none-found.result c.none-found.ensures.outcome c.none-found.ensures.status

pub loop-exit-preserved : goal.loop-exit-preserved
loop-exit-preserved c =
    let xs = c.args.exits.now in
    let i = c.loop-exit.exit-index in
    subst (λ (done : List BareExit). AreOfExits done c.with_exit-found.result) (sym (take_more xs i _ c.loop-exit-test.true)) (c.with_exit-found.ensures (take i xs) c.loop-exit.invariant)

pub returns : goal.returns
returns c = subst (λ (done : List BareExit). AreOfExits done c.loop-exit.found) (take_all c.loop-exit.exit-index c.args.exits.now c.loop-exit-test.false) c.loop-exit.invariant
