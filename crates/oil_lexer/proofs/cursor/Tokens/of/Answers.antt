use Rattle.oil_lexer.proofs.AheadSteps.{of_parts, are_of}
use Rattle.oil_lexer.proofs.cursor.Tokens.of.Goals as goal

pub from_line-requires-clause-ahead : goal.from_line-requires-clause-ahead
from_line-requires-clause-ahead c = of_parts c.requires.ahead.0 c.requires.ahead.1

pub returns : goal.returns
returns c = are_of c.from_line.ensures c.requires.ahead.0 c.requires.ahead.1
