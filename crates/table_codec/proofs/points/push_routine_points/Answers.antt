use Rattle.std.proofs.Common.{◌∙◌, Some}
use Rattle.osek_values.specs.Numbers.{task_no}
use Rattle.osek_standard.specs.declared.point.Point.TheVariants as point
use Rattle.abstract_state.proofs.RangeLaws.{mapped_more}
use Rattle.table_codec.proofs.points.push_routine_points.Goals as goal

pub loop-task-preserved : goal.loop-task-preserved
loop-task-preserved c = c.in_ok-push-2.ensures.ok ∙ mapped_more _ c.loop-task.points (λ t. point.Routine c.args.block (Some (task_no t))) c.loop-task.task c.loop-task.invariant
