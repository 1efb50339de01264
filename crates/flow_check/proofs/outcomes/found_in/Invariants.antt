use Rattle.std.proofs.Common.{take}
use Rattle.flow_check.specs.Outcomes.{AreOfExits}
use Rattle.flow_check.proofs.outcomes.found_in.Given as goal

abbrev pub invariant-loop-exit : goal.invariant-loop-exit
invariant-loop-exit l = AreOfExits (take l.exit-index l.exits) l.found
