use Rattle.osek_standard.specs.Apps.{the_task}
use Rattle.flow_services.proofs.NamedEvents.{named_own}
use Rattle.flow_services.proofs.events.event_clearings.Goals as goal

pub add_event_changes-requires-clause-own : goal.add_event_changes-requires-clause-own
add_event_changes-requires-clause-own c = named_own (the_task c.args.app.now c.in-Task.task.0) c.task.result.now c.args.mask.0 c.and.result c.task.ensures c.and.ensures
