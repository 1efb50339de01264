-- a move within the owner's blocks keeps a state well-formed
use Rattle.std.proofs.Common.{subst, rules}
use Rattle.osek_standard.specs.Well.{Well}
use Rattle.osek_standard.proofs.MoveKeeps.{moved_keeps}
use Rattle.generic_kernel.proofs.places.move_to.Goals as goal

pub returns-in-Live-clause-moved : goal.returns-in-Live-clause-moved
returns-in-Live-clause-moved c = search rules

pub returns-in-Live-clause-well : goal.returns-in-Live-clause-well
returns-in-Live-clause-well c =
    subst (Well c.args.app.now) (returns-in-Live-clause-moved c) (moved_keeps c.args.app.now c.args.state.now c.requires.well c.args.place c.requires.own c.requires.offset)

pub returns-in-In-clause-moved : goal.returns-in-In-clause-moved
returns-in-In-clause-moved c = search rules

pub returns-in-In-clause-well : goal.returns-in-In-clause-well
returns-in-In-clause-well c =
    subst (Well c.args.app.now) (returns-in-In-clause-moved c) (moved_keeps c.args.app.now c.args.state.now c.requires.well c.args.place c.requires.own c.requires.offset)
