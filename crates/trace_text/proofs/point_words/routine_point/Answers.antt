use Rattle.std.proofs.Common.{◌++◌, sym}
use Rattle.std.specs.Prelude.{codes}
use Rattle.trace_text.proofs.PointReading.{routine_block, not_routines}
use Rattle.trace_text.proofs.point_words.routine_point.Goals as goal

pub returns-then-is_task_block : goal.returns-then-is_task_block
returns-then-is_task_block c =
    λ b x h e same. not_routines c.args.app.now c.in-Some.block.0 c.args.digits.now c.in-Some.ensures.0 c.in-Some.ensures.1 (sym c.if-is_task_block.ensures) b x h e

pub returns-else-is_task_block : goal.returns-else-is_task_block
returns-else-is_task_block c =
    let block = c.in-Some.ensures in
    let over = c.in-Some-over_named.ensures in (
      routine_block c.args.app.now c.in-Some.block.0 c.in-Some-over_named.over block.0 (sym c.if-is_task_block.ensures) over.0,
      (λ i. codes "b" ++ block.1 i ++ codes "/" ++ over.1 i),
    )
