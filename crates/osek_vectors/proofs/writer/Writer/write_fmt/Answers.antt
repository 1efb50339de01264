use Rattle.std.proofs.Common.{rules}
use Rattle.osek_vectors.specs.Writing.{fixed, onto}
use Rattle.osek_vectors.proofs.writer.Writer.write_fmt.Goals as goal

pub returns : goal.returns
unfolding fixed onto
returns g c = search rules
