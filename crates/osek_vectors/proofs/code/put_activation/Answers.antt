use Rattle.osek_vectors.proofs.WritingLaws.{onto_draw}
use Rattle.osek_vectors.proofs.code.put_activation.Goals as goal

pub returns : goal.returns
returns c = rw (onto_draw, ← c.draw-task.ensures.after, ← c.draw-task.ensures.number) c.write.ensures
