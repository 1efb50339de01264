-- no line, where there is room, and else the line that has none
use Rattle.std.proofs.Common.{ℕ, List, sym, ap}
use Rattle.oil_model.specs.Lines.{least}
use Rattle.block_graph.specs.Rules.{first_only}
use Rattle.block_graph.proofs.sizes.beyond_limit.Goals as goal

pub returns-in-Ok : goal.returns-in-Ok
returns-in-Ok c = sym (ap (λ (lines : List ℕ). least (first_only lines)) c.in-Ok.ensures)

pub returns-in-Err : goal.returns-in-Err
returns-in-Err c = sym (ap least c.in-Err.ensures)
