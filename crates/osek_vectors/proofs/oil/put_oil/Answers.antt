use Rattle.osek_vectors.proofs.WritingLaws.{onto_then}
use Rattle.osek_vectors.proofs.oil.put_oil.Goals as goal

pub returns : goal.returns
returns c = rw (onto_then, onto_then, ← c.in_ok-put.ensures, ← c.in_ok-put_tasks.ensures) c.put-2.ensures
