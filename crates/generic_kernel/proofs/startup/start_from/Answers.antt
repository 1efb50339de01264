-- the state before the first dispatch is well-formed
use Rattle.std.proofs.Common.{sym, subst}
use Rattle.osek_standard.specs.Well.{Well}
use Rattle.osek_standard.proofs.StepKeeps.{initial_is_well}
use Rattle.generic_kernel.proofs.startup.start_from.Goals as goal

pub of-ready-requires : goal.of-ready-requires
of-ready-requires g c = subst (Well c.args.app.now) (sym c.in_ok-state.ensures) (initial_is_well c.args.app.now c.args.mode c.requires.mode)

pub switch_to-hooks-requires-clause-well : goal.switch_to-hooks-requires-clause-well
switch_to-hooks-requires-clause-well g c = subst (Well c.args.app.now) (sym c.in_ok-state.ensures) (initial_is_well c.args.app.now c.args.mode c.requires.mode)

pub best_task-requires-clause-well : goal.best_task-requires-clause-well
best_task-requires-clause-well g c = subst (Well c.args.app.now) (sym c.in_ok-state.ensures) (initial_is_well c.args.app.now c.args.mode c.requires.mode)
