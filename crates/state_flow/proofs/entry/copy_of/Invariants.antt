use Rattle.std.proofs.Common.{◌≡◌, take}
use Rattle.state_flow.proofs.entry.copy_of.Given as goal

abbrev pub invariant-loop-member : goal.invariant-loop-member
invariant-loop-member l = l.members ≡ take l.member-index l.set.members
