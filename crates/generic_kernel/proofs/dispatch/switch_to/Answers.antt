-- a dispatch keeps a state well-formed
use Rattle.std.proofs.Common.{subst, rules}
use Rattle.osek_standard.specs.Well.{Well}
use Rattle.osek_standard.proofs.StepKeeps.{dispatched_keeps}
use Rattle.generic_kernel.specs.Moves.{KeepsLevels}
use Rattle.generic_kernel.proofs.SilentLaws.{dispatched_levels}
use Rattle.generic_kernel.proofs.dispatch.switch_to.Goals as goal

pub returns-clause-state : goal.returns-clause-state
returns-clause-state c = search rules

pub returns-clause-well : goal.returns-clause-well
returns-clause-well c =
    subst (Well c.args.app.now) (returns-clause-state c) (dispatched_keeps c.args.app.now c.args.state.now c.args.task c.requires.well c.requires.out c.requires.live)

pub returns-clause-levels : goal.returns-clause-levels
returns-clause-levels c =
    subst (KeepsLevels c.args.app.now c.args.state.now) (returns-clause-state c) (dispatched_levels c.args.app.now c.args.state.now c.requires.well c.args.task c.requires.live)
