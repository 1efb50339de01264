-- one more byte than is left, at most
use Rattle.std.proofs.Common.{arith}
use Rattle.osek_io.proofs.loading.bytes_to_ask.Goals as goal

pub returns-clause-within : goal.returns-clause-within
returns-clause-within c = omega arith
