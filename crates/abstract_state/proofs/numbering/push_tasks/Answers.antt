use Rattle.std.proofs.Common.{◌∙◌}
use Rattle.osek_values.specs.Numbers.{task_no}
use Rattle.abstract_state.specs.declared.value.Component.TheVariants as component
use Rattle.abstract_state.proofs.RangeLaws.{mapped_more}
use Rattle.abstract_state.proofs.numbering.push_tasks.Goals as goal

pub loop-task-preserved : goal.loop-task-preserved
loop-task-preserved c = c.in_ok-push.ensures.ok ∙ mapped_more c.args.all.now c.loop-task.all (λ t. component.Task (task_no t)) c.loop-task.task c.loop-task.invariant
