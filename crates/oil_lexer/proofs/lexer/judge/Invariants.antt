use Rattle.std.proofs.Common.{◌+◌, ◌≤◌, List, length}
use Rattle.osek_values.specs.declared.limits.TheConstants.{MAX_FILE}
use Rattle.oil_lexer.specs.{declared.token.Token.{Token}, Text.{Parts}}
use Rattle.oil_lexer.proofs.lexer.judge.Given as goal

abbrev pub invariant-loop-rest : goal.invariant-loop-rest
invariant-loop-rest l = record { parts : (tokens : List Token) × Parts l.line l.rest 1 l.bytes tokens; lines : l.line + length l.rest ≤ 1 + length l.bytes; within : length l.bytes ≤ MAX_FILE; first : 1 ≤ l.line }

abbrev pub decreases-loop-rest : goal.decreases-loop-rest
decreases-loop-rest l = length l.rest
