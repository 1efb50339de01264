use Rattle.std.proofs.Common.{◌≡◌, drop}
use Rattle.std.specs.List.{flat_map}
use Rattle.oil_model.specs.Lines.{sooner, least}
use Rattle.block_graph.specs.Rules.{no_event}
use Rattle.block_graph.proofs.calls.no_events.Given as goal

abbrev pub invariant-loop-event : goal.invariant-loop-event
invariant-loop-event l = sooner l.best (least (flat_map (no_event l.system) (drop l.event-index l.events))) ≡ least (flat_map (no_event l.system) l.events)
