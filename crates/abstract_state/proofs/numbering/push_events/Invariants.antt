use Rattle.std.proofs.Common.{◌≡◌, ◌++◌, flat_map}
use Rattle.std.specs.List.{range_with_len}
use Rattle.abstract_state.specs.Components.{events_of}
use Rattle.abstract_state.proofs.numbering.push_events.Given as goal

abbrev pub invariant-loop-task : goal.invariant-loop-task
invariant-loop-task l = l.all ≡ l.initial.all ++ flat_map (events_of l.app) (range_with_len 0 l.task)
