use Rattle.std.proofs.Common.{◌≡◌, take}
use Rattle.numbered_sets.proofs.loads.LoadsClone.clone.Given as goal

abbrev pub invariant-loop-number : goal.invariant-loop-number
invariant-loop-number l = l.copy ≡ take l.number l.self
