use Rattle.std.proofs.Common.{◌∙◌, sym, ap}
use Rattle.task_code.specs.Statements.{Statements, closing_line}
use Rattle.block_graph.specs.Blocks.{entry}
use Rattle.block_graph.proofs.BlocksSteps.{entered_first}
use Rattle.block_graph.proofs.layout.entry.Goals as goal

pub returns-else-is_empty : goal.returns-else-is_empty
returns-else-is_empty c =
    entered_first c.as_slice.result.now (closing_line c.args.list.now) c.args.first c.args.after (sym c.is_empty.ensures ∙ c.if-is_empty.false)
    ∙ ap (λ (l : Statements). entry l c.args.first c.args.after) c.as_slice.ensures
