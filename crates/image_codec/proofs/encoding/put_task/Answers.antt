-- the fields of a task in order
use Rattle.std.proofs.{Common.{arith}, lemmas.Grind.{common_steps}}
use Rattle.image_codec.proofs.encoding.put_task.Goals as goal

pub returns : goal.returns
returns c = grind (arith, common_steps)
