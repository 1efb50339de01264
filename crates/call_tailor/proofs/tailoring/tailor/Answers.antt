use Rattle.std.proofs.Common.{arith}
use Rattle.call_tailor.proofs.tailoring.tailor.Goals as goal

pub tailor_with-requires-clause-known : goal.tailor_with-requires-clause-known
tailor_with-requires-clause-known c = λ x row known listed at. absurd (omega (arith, known.1))
