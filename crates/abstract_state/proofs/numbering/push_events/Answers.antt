use Rattle.std.proofs.Common.{◌∙◌}
use Rattle.abstract_state.specs.Components.{events_of}
use Rattle.abstract_state.proofs.RangeLaws.{flat_mapped_more}
use Rattle.abstract_state.proofs.numbering.push_events.Goals as goal

pub loop-task-preserved : goal.loop-task-preserved
loop-task-preserved c = c.in_ok-push_events_of.ensures ∙ flat_mapped_more c.args.all.now c.loop-task.all (events_of c.args.app.now) c.loop-task.task c.loop-task.invariant
