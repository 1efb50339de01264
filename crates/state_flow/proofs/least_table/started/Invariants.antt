use Rattle.numbered_sets.specs.Pools.{IsLonger}
use Rattle.state_flow.specs.{Progress.{AreStarted}, PlainCells.{plain_cells, AreCellsOf}}
use Rattle.state_flow.proofs.least_table.started.Given as goal

abbrev pub invariant-loop-mode : goal.invariant-loop-mode
invariant-loop-mode l = IsLonger l.initial.pool l.pool × AreCellsOf l.pool l.cells.list.items × AreStarted l.app l.mode (plain_cells l.pool l.cells.list.items)
