use Rattle.std.proofs.{Common.{◌≡◌, ◌⊎◌, Some, List, [], ◌∷◌, ◌++◌, sym, ap₂, subst, ◌∙◌}, lemmas.List.{map-append}}
use Rattle.std.specs.Prelude.{Contains}
use Rattle.numbered_sets.specs.declared.{numbered_entry.NumberedEntry.{NumberedEntry}, table.NumberedRow.{NumberedRow}}
use Rattle.state_flow.specs.{declared.cells.Cell.{Cell}, PlainCells.{numbered_row}}
use Rattle.state_flow.proofs.CellRows.{exits_more}
use Rattle.state_flow.proofs.numbered_cells.rows.Goals as goal

pub loop-cell-preserved : goal.loop-cell-preserved
loop-cell-preserved c = record {
  rows = c.in_ok-push.ensures.ok ∙ ap₂ (λ (rows : List NumberedRow) (cell : Cell NumberedEntry). rows ++ numbered_row cell ∷ []) c.loop-cell.invariant.rows c.into_value-point.ensures
      ∙ sym (map-append numbered_row c.loop-cell.yielded (c.in-Some.cell ∷ []));
  exits = exits_more c.loop-cell.yielded c.in-Some.cell c.loop-cell.exits c.add_exits.new.exits c.loop-cell.invariant.exits (λ x m.
      subst (λ (cell : Cell NumberedEntry). Contains c.loop-cell.exits x ⊎ ((x.point ≡ cell.point) × (cell.exits ≡ Some x.exits))) c.into_value-point.ensures (c.in_ok-add_exits.ensures x m));
}
