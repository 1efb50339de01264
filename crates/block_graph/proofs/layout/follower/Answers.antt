use Rattle.std.proofs.Common.{◌∙◌, sym}
use Rattle.block_graph.proofs.BlocksSteps.{entered_first}
use Rattle.block_graph.proofs.layout.follower.Goals as goal

pub returns-else-is_empty : goal.returns-else-is_empty
returns-else-is_empty c = λ close. entered_first c.args.rest.now close c.args.behind c.args.after (sym c.is_empty.ensures ∙ c.if-is_empty.false)
