use Rattle.flow_rules.proofs.AllowedSets.{ArePartsUpTo}
use Rattle.flow_rules.proofs.allowing.allowed_part.Given as goal

abbrev pub invariant-loop-place : goal.invariant-loop-place
invariant-loop-place l = ArePartsUpTo l.app l.point l.entry l.place l.sets
