use Rattle.std.proofs.Common.{rules}
use Rattle.osek_vectors.specs.Writing.{drawn, with_draw}
use Rattle.osek_vectors.proofs.writer.Writer.draw.Goals as goal

pub returns-clause-number : goal.returns-clause-number
unfolding drawn
returns-clause-number c = search rules

pub returns-clause-after : goal.returns-clause-after
unfolding with_draw
returns-clause-after c = search rules
