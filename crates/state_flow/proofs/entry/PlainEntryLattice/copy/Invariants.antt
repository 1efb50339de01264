use Rattle.std.proofs.Common.{◌≡◌, take}
use Rattle.state_flow.proofs.entry.PlainEntryLattice.copy.Given as goal

abbrev pub invariant-loop-set : goal.invariant-loop-set
invariant-loop-set l = l.sets ≡ take l.set-index l.self.sets
