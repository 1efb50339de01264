-- One row more, beside a pool that may have grown by its values.
use Rattle.std.proofs.{Common.{◌≡◌, List, [], ◌∷◌, ◌++◌, refl, ap, ap₂, subst, ◌∙◌, inl, inr, arith}, lemmas.List.{map-append, Elements.{Contains-push_cases}}}
use Rattle.abstract_state.specs.declared.table.{PlainEntry.{PlainEntry}, TableRow.{TableRow}}
use Rattle.numbered_sets.specs.{Pools.{Values, IsLonger}, Views.{plain_entry, AreNumbersOf}}
use Rattle.numbered_sets.proofs.ViewLaws.{same_view, still_known}
use Rattle.numbered_sets.specs.{declared.table.NumberedRow.{NumberedRow}, PlainTables.{row_at, plain_row, plain_rows, AreRowsOf}}
use Rattle.numbered_sets.proofs.GrownPools.{rows_of_tail}

module _ (pool after : List Values) (longer : IsLonger pool after) where
  rows_same : (rows : List NumberedRow) → AreRowsOf pool rows → plain_rows after rows ≡ plain_rows pool rows
  rows_same [] known = refl
  rows_same (row ∷ rows) known =
      ap₂ (λ (r : TableRow) (rs : List TableRow). r ∷ rs) (ap (row_at row.point) (same_view pool after row.entry longer (known.each row (0, omega arith, refl))))
      (rows_same rows (rows_of_tail pool row rows known))

  module _ (rows : List NumberedRow) (row : NumberedRow) (known : AreRowsOf pool rows) (here : AreNumbersOf after row.entry) where
    pub rows_pushed : AreRowsOf after (rows ++ row ∷ [])
    rows_pushed = record {
      each = λ r m. elim (Contains-push_cases rows row r m) [
        | inl there ↦ still_known pool after r.entry longer (known.each r there)
        | inr same ↦ subst (λ (x : NumberedRow). AreNumbersOf after x.entry) same here
      ];
    }

    pub plain_pushed : (entry : PlainEntry) → plain_entry after row.entry ≡ entry → plain_rows after (rows ++ row ∷ []) ≡ plain_rows pool rows ++ row_at row.point entry ∷ []
    plain_pushed entry e = map-append (plain_row after) rows (row ∷ []) ∙ ap₂ (λ (rs : List TableRow) (r : TableRow). rs ++ r ∷ []) (rows_same rows known) (ap (row_at row.point) e)
