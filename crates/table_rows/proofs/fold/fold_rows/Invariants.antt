use Rattle.std.proofs.Common.{◌≡◌, take}
use Rattle.numbered_sets.specs.{Pools.{IsLonger}, PlainTables.{AreRowsFor}}
use Rattle.table_rows.proofs.fold.fold_rows.Given as goal

abbrev pub invariant-loop-row : goal.invariant-loop-row
invariant-loop-row g l = record {
  rows : AreRowsFor l.table.rows l.initial.numbering.pool l.row-items;
  app : l.numbering.app.now ≡ l.app;
  longer : IsLonger l.initial.numbering.pool l.numbering.pool;
  made : g.F.RowFold.is_of l.app (take l.row-index l.table.rows) l.made;
}
