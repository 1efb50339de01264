use Rattle.osek_vectors.proofs.WritingLaws.{onto_draw}
use Rattle.osek_vectors.proofs.code.put_alarm_setting.Goals as goal

pub returns : goal.returns
returns c = rw (onto_draw, ← c.draw.ensures.after, ← c.draw.ensures.number) c.write.ensures
