use Rattle.oil_lexer.proofs.Unique.{one_answer}
use Rattle.oil_lexer.proofs.lexer.tokens.Goals as goal

pub returns-clause-exact : goal.returns-clause-exact
returns-clause-exact c expected is = one_answer c.args.bytes.now _ expected c.lex.ensures is
