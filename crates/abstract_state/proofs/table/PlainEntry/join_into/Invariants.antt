use Rattle.std.proofs.Common.{◌≡◌, ◌+◌, ◌≤◌, take, sum_by}
use Rattle.abstract_state.specs.Tables.{entry_values}
use Rattle.abstract_state.proofs.EntryJoins.{AreJoinedBelow, size}
use Rattle.abstract_state.proofs.table.PlainEntry.join_into.Given as goal

abbrev pub invariant-loop-place : goal.invariant-loop-place
invariant-loop-place l =
    AreJoinedBelow l.initial.self l.other l.place l.self
    × (entry_values l.self ≡ entry_values l.initial.self + l.added)
    × (l.added ≤ sum_by size (take l.place l.other.sets))
