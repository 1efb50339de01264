use Rattle.std.proofs.Common.{arith}
use Rattle.oil_lexer.proofs.Steps.{blanks_first, pieces_of}
use Rattle.oil_lexer.proofs.piece.front.Goals as goal

pub returns-then-blanks-gt0 : goal.returns-then-blanks-gt0
returns-then-blanks-gt0 c = blanks_first c.args.bytes.now c.run_end-blanks.result c.run_end-blanks.ensures (omega arith)

pub returns : goal.returns
returns c = pieces_of c.piece.result c.args.bytes.now c.piece.ensures
