use Rattle.std.proofs.Common.{◌+◌, ◌≤◌, length}
use Rattle.osek_values.specs.declared.limits.TheConstants.{MAX_FILE}
use Rattle.oil_lexer.specs.Ahead.{AreAhead}
use Rattle.oil_lexer.proofs.cursor.Tokens.first.Given as goal

abbrev pub invariant-loop-rest : goal.invariant-loop-rest
invariant-loop-rest l = record { ahead : ∥ AreAhead l.line l.rest l.self ∥₁; lines : l.line + length l.rest ≤ MAX_FILE + 1; first : 1 ≤ l.line }

abbrev pub decreases-loop-rest : goal.decreases-loop-rest
decreases-loop-rest l = length l.rest
