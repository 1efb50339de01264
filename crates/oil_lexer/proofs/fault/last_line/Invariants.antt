use Rattle.std.proofs.Common.{◌≡◌, length}
use Rattle.oil_lexer.specs.Tokens.{last_line}
use Rattle.oil_lexer.proofs.fault.last_line.Given as goal

abbrev pub invariant-loop-token : goal.invariant-loop-token
invariant-loop-token l = last_line l.line l.rest ≡ last_line 1 l.tokens

abbrev pub decreases-loop-token : goal.decreases-loop-token
decreases-loop-token l = length l.rest
