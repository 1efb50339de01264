use Rattle.std.proofs.Common.{take}
use Rattle.point_exits.specs.Growing.{IsGrown}
use Rattle.state_flow.specs.Numbering.{AreRowsEvaluated}
use Rattle.state_flow.proofs.evaluation.evaluate_each.Given as goal

abbrev pub invariant-loop-row : goal.invariant-loop-row
invariant-loop-row l = record {
  grown : IsGrown l.initial.numbering l.numbering;
  evaluated : AreRowsEvaluated l.initial.numbering.app.now l.initial.numbering.pool (take l.row-index l.rows) l.initial.cells.list.items l.numbering.pool l.cells.list.items;
}
