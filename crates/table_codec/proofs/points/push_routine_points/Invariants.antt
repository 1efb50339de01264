use Rattle.std.proofs.Common.{◌≡◌, ◌++◌, map, Some}
use Rattle.std.specs.List.{range_with_len}
use Rattle.osek_values.specs.Numbers.{task_no}
use Rattle.osek_standard.specs.declared.point.Point.TheVariants as point
use Rattle.table_codec.proofs.points.push_routine_points.Given as goal

abbrev pub invariant-loop-task : goal.invariant-loop-task
invariant-loop-task l = l.points ≡ l.initial.points ++ map (λ t. point.Routine l.block (Some (task_no t))) (range_with_len 0 l.task)
