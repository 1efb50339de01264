use Rattle.std.proofs.Common.{ℕ, List, ◌∷◌, sym, ap}
use Rattle.trace_text.proofs.PointReading.{task_block, not_tasks}
use Rattle.trace_text.proofs.point_words.task_point.Goals as goal

pub returns-then-is_task_block : goal.returns-then-is_task_block
returns-then-is_task_block c = (
  task_block c.args.app.now c.in-Some.block.0 c.in-Some.ensures.0 (sym c.if-is_task_block.ensures),
  ap (λ (l : List ℕ). 98 ∷ l) c.in-Some.ensures.1,
)

pub returns-else-is_task_block : goal.returns-else-is_task_block
returns-else-is_task_block c = not_tasks c.args.app.now c.in-Some.block.0 c.args.digits.now c.in-Some.ensures.0 c.in-Some.ensures.1 (sym c.if-is_task_block.ensures)
