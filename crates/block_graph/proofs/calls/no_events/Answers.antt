use Rattle.block_graph.specs.Rules.{no_event}
use Rattle.oil_model.proofs.Leasts.{flat_map_step}
use Rattle.block_graph.proofs.calls.no_events.Goals as goal

pub loop-event-preserved : goal.loop-event-preserved
loop-event-preserved c =
    rw (c.sooner-best.ensures, c.no_event.ensures) (flat_map_step (no_event c.args.system.now) c.loop-event.best _ c.args.events.now c.loop-event.event-index c.event-item.result c.loop-event-test.true c.event-item.is c.loop-event.invariant)
