-- The rows of a plain table by number, beside a pool that grew.
use Rattle.std.proofs.Common.{◌≡◌, ℕ, ◌<◌, List, length, get_or, sym, ap, ◌∙◌, arith}
use Rattle.std.specs.Prelude.{Contains}
use Rattle.std.proofs.lemmas.List.{get_or-map, length-map}
use Rattle.abstract_state.specs.declared.table.TableRow.{TableRow}
use Rattle.numbered_sets.specs.{Pools.{Values, IsLonger}, Views.{AreNumbersOf}}
use Rattle.numbered_sets.proofs.ViewLaws.{same_view, still_known}
use Rattle.numbered_sets.specs.{declared.table.NumberedRow.{NumberedRow}, PlainTables.{row_at, plain_row, AreRowsFor}}

module _ (plain : List TableRow) (first : List Values) (rows : List NumberedRow) (are : AreRowsFor plain first rows) where
  pub as_many : length plain ≡ length rows
  as_many = sym (ap (λ (xs : List TableRow). length xs) are.same) ∙ length-map rows (plain_row first)

  module _ (pool : List Values) (longer : IsLonger first pool) (i : ℕ) (row : NumberedRow) (lt : i < length rows) (is : row ≡ get_or rows i row) where
    known_first : AreNumbersOf first row.entry
    known_first = are.known.each row (i, lt, sym is)

    pub row_known : AreNumbersOf pool row.entry
    row_known = still_known first pool row.entry longer known_first

    -- its plain form is the plain table's row
    pub row_is : (d : TableRow) → plain_row pool row ≡ get_or plain i d
    row_is d =
        ap (row_at row.point) (same_view first pool row.entry longer known_first) ∙ ap (plain_row first) is ∙ sym (get_or-map (plain_row first) rows i row d lt) ∙ ap (λ (xs : List TableRow). get_or xs i d) are.same

    pub row_listed : Contains plain (plain_row pool row)
    row_listed = (i, omega (arith, lt, as_many), sym (row_is (plain_row pool row)))
