use Rattle.std.proofs.Common.{refl, sym}
use Rattle.trace_text.proofs.PointReading.{task_block}
use Rattle.trace_text.proofs.point_words.plain_task_point.Goals as goal

pub returns-then-is_task_block : goal.returns-then-is_task_block
returns-then-is_task_block c = (task_block c.args.app.now c.args.block.0 c.requires (sym c.if-is_task_block.ensures), refl)
