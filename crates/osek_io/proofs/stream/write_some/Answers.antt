-- nothing is taken of an empty piece alone
use Rattle.std.proofs.Common.{rules}
use Rattle.osek_io.proofs.stream.write_some.Goals as goal

pub returns-in-Ok-clause-some : goal.returns-in-Ok-clause-some
returns-in-Ok-clause-some g c = search rules
