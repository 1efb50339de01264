use Rattle.std.proofs.Common.{eqb, arith}
use Rattle.trace_text.proofs.LineEnds.{first_near}
use Rattle.trace_text.proofs.feed.near_line_end.Goals as goal

pub returns : goal.returns
returns c = first_near (λ x. eqb x 10) c.args.text.now 16 c.line_ends-ends.result (omega arith) (omega arith) c.line_ends-ends.ensures (omega arith)
