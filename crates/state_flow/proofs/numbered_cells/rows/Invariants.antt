use Rattle.std.proofs.Common.{◌≡◌, map}
use Rattle.state_flow.specs.{PlainCells.{numbered_row}, KnownCells.{AreOfCells}}
use Rattle.state_flow.proofs.numbered_cells.rows.Given as goal

abbrev pub invariant-loop-cell : goal.invariant-loop-cell
invariant-loop-cell l = record {
  rows : l.rows ≡ map numbered_row l.yielded;
  exits : AreOfCells l.yielded l.exits;
}
