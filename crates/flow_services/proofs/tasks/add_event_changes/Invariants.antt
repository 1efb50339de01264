use Rattle.std.proofs.Common.{◌≡◌, ◌++◌, map, filter}
use Rattle.std.specs.List.{range_with_len}
use Rattle.osek_values.specs.Bits.{has_bit}
use Rattle.flow_model.specs.Changes.{event_change}
use Rattle.flow_services.proofs.tasks.add_event_changes.Given as goal

abbrev pub invariant-loop-bit : goal.invariant-loop-bit
invariant-loop-bit l = l.changes ≡ l.initial.changes ++ map (event_change l.app l.task.0 l.set) (filter (has_bit l.events.0) (range_with_len 0 l.bit))
