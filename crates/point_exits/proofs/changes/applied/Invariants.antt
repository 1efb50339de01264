use Rattle.std.proofs.Common.{◌≡◌, length}
use Rattle.numbered_sets.specs.NumberedEntries.{number_domains}
use Rattle.point_exits.specs.{Applying.{bare_rule}, Changing.{up_to, AreAllPassed}}
use Rattle.point_exits.proofs.changes.applied.Given as goal

abbrev pub invariant-loop-place : goal.invariant-loop-place
invariant-loop-place l = AreAllPassed (up_to (bare_rule l.conditions l.changes) l.place) l.fn.pool l.entry (length l.entry.sets) l.pool l.made.sets × (number_domains l.made ≡ number_domains l.entry)
