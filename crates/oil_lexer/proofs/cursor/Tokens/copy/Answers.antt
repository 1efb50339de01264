use Rattle.std.proofs.Common.{◌∙◌}
use Rattle.oil_lexer.proofs.AheadSteps.{same_tokens}
use Rattle.oil_lexer.proofs.cursor.Tokens.copy.Goals as goal

pub from_line-requires-clause-ahead : goal.from_line-requires-clause-ahead
from_line-requires-clause-ahead c = c.self.inside.ahead

pub returns : goal.returns
returns c = same_tokens c.from_line.ensures c.self.inside.ahead ∙ c.self.view_is
