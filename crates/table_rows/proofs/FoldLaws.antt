-- In a fold over the rows of a table by number, beside a pool that grew: what is known of the row that comes next.
use Rattle.std.proofs.Common.{◌≡◌, ℕ, ◌+◌, ◌<◌, List, [], ◌∷◌, ◌++◌, length, get_or, take, sym, ap, subst, ◌∙◌, arith}
use Rattle.std.proofs.lemmas.List.{get_or-take, get_or_default, length-take, take_more}
use Rattle.osek_standard.specs.declared.app.App.{App}
use Rattle.abstract_state.specs.{declared.table.{TableRow.{TableRow}, PlainTable.{PlainTable}}, Written.{IsWritten}}
use Rattle.numbered_sets.specs.{declared.table.NumberedRow.{NumberedRow}, Pools.{Values, IsLonger}, PlainTables.{plain_row, AreRowsFor}}
use Rattle.numbered_sets.proofs.{RowsByNumber.{as_many, row_is, row_listed}, WrittenRows.{row_number, rows_ascend}}
use Rattle.point_exits.specs.Rows.{IsProperRow}
use Rattle.table_rows.specs.declared.bare.{BareExit.{BareExit}, PointExits.{PointExits}}
use Rattle.table_rows.specs.{BareExits.{AreBareExitsOf, AreKnownExits}, Folds.{IsNextRow}, Rows.{AreRowsFrom}}
use Rattle.table_rows.proofs.TableRows.{row_proper}

-- rows for those of a written table are rows from one
pub rows_from : (app : App) (table : PlainTable) → IsWritten app table → (pool : List Values) (rows : List NumberedRow) → AreRowsFor table.rows pool rows → AreRowsFrom app pool rows
rows_from app table written pool rows are = record {
  known = are.known;
  written = subst (IsWritten app) (let same = sym are.same in λ i. record { rows = same i }) written;
}

module _ (app : App) (table : PlainTable) (written : IsWritten app table) (first : List Values) (rows : List NumberedRow)
    (are : AreRowsFor table.rows first rows) (pool : List Values) (longer : IsLonger first pool)
    (i : ℕ) (row : NumberedRow) (lt : i < length rows) (is : row ≡ get_or rows i row) where
  there : i < length table.rows
  there = omega (arith, lt, as_many table.rows first rows are)

  same_row : plain_row pool row ≡ get_or table.rows i (plain_row pool row)
  same_row = row_is table.rows first rows are pool longer i row lt is (plain_row pool row)

  pub proper_row : IsProperRow app (plain_row pool row)
  proper_row = row_proper app table written (plain_row pool row) (row_listed table.rows first rows are pool longer i row lt is)

  pub row_taken : take i table.rows ++ plain_row pool row ∷ [] ≡ take (i + 1) table.rows
  row_taken = ap (λ (x : TableRow). take i table.rows ++ x ∷ []) same_row ∙ sym (take_more table.rows i (plain_row pool row) there)

  pub known_exits : (known : List PointExits) → AreKnownExits app table.rows known
      → (place : ℕ) (x : PointExits) → place < length known → x ≡ get_or known place x → x.point ≡ row.point → AreBareExitsOf app (plain_row pool row) x.exits
  known_exits known are_known place x low at point =
      are_known x (plain_row pool row) (place, low, sym at) (row_listed table.rows first rows are pool longer i row lt is) (sym point)

  pub next_row : (exits : List BareExit) → AreBareExitsOf app (plain_row pool row) exits → IsNextRow app (take i table.rows) (plain_row pool row) exits
  next_row exits its_exits = record {
    above = λ x h.
        (let low : h.0 < i = omega (arith, h.1, length-take i table.rows) in
        let its = plain_row pool row in
        let at : get_or table.rows h.0 its ≡ x =
        get_or_default table.rows h.0 its x (omega (arith, low, there)) ∙ sym (get_or-take i table.rows h.0 x low) ∙ h.2 in
        omega (arith, rows_ascend app table written h.0 i its low there, ap row_number at, ap row_number same_row));
    are = its_exits;
  }
