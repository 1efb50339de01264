-- What rows show, in a loop over them, and what it says of states.
use Rattle.std.proofs.Common.{◌≡◌, ℕ, ◌+◌, ◌<◌, List, length, get_or, IsTrue, sym, ap, subst, ◌∙◌, inl, inr, arith}
use Rattle.std.specs.Prelude.{Contains}
use Rattle.std.proofs.lemmas.{Bool.{cases_lt}, List.{length-map, get_or-map}}
use Rattle.osek_values.specs.declared.numbers.BlockNo.{BlockNo}
use Rattle.osek_standard.specs.{declared.{app.App.{App}, point.Point.{Point}, state.State.{State}}, Points.{point_of, StandsAt}}
use Rattle.abstract_state.specs.declared.{table.{TableRow.{TableRow}, PlainTable.{PlainTable}}}
use Rattle.abstract_state.specs.{Components.{component_count, abstract_of}, Tables.{In, sets_of}, Written.{IsWritten}}
use Rattle.flow_model.specs.{declared.test.Test.{Test}, Tests.{passes}}
use Rattle.numbered_sets.specs.{declared.table.NumberedRow.{NumberedRow}, Pools.{Values}, PlainTables.{plain_row, plain_rows}}
use Rattle.flow_report.specs.{Reached.{HasPassing, ShowsState}, Findings.{IsReachedBlock}}
use Rattle.flow_report.proofs.RowStates.{row_of_state, some_state, state_with_value, is_the_value}

-- no row of a list, and with one more
module _ (P : TableRow → Type 0) where
  -- P holds of none of the first ones
  abbrev pub IsOfNone : List TableRow → ℕ → Type 0
  IsOfNone rows k = (i : ℕ) (d : TableRow) → i < k → P (get_or rows i d) → ⊥

  pub of_none_more : (rows : List TableRow) (k : ℕ) → IsOfNone rows k → ((d : TableRow) → P (get_or rows k d) → ⊥) → IsOfNone rows (k + 1)
  of_none_more rows k h last i d lt p = elim (cases_lt i k) [
    | inl less ↦ h i d less p
    | inr le ↦ (let e : i ≡ k = omega (arith, lt, le) in last d (subst (λ (n : ℕ). P (get_or rows n d)) e p))
  ]

  pub of_no_row : (rows : List TableRow) (k : ℕ) → IsOfNone rows k → (row : TableRow) → Contains rows row → length rows < k + 1 → P row → ⊥
  of_no_row rows k h row m whole p = h m.0 row (omega (arith, m.1, whole)) (subst P (sym m.2) p)

-- a row by number, as one of the plain table
pub row_among : (pool : List Values) (rows : List NumberedRow) (i : ℕ) (row : NumberedRow) → i < length rows → row ≡ get_or rows i row → Contains (plain_rows pool rows) (plain_row pool row)
row_among pool rows i row lt e =
    (i, omega (arith, lt, length-map rows (plain_row pool)), get_or-map (plain_row pool) rows i row (plain_row pool row) lt ∙ ap (plain_row pool) (sym e))

pub row_at_place : (pool : List Values) (rows : List NumberedRow) (i : ℕ) (row : NumberedRow) → i < length rows → row ≡ get_or rows i row → (d : TableRow) → get_or (plain_rows pool rows) i d ≡ plain_row pool row
row_at_place pool rows i row lt e d = get_or-map (plain_row pool) rows i row d lt ∙ ap (plain_row pool) (sym e)

-- a state at a point, with a value that passes
pub record StateAt (app : App) (table : PlainTable) (p : Point) (c : ℕ) (t : Test) : Type 0 where
  pub state : State
  pub inside : In app (sets_of table) state
  pub point : point_of state ≡ p
  pub passes : IsTrue (passes t (abstract_of app state c))

-- a state's row, with a value that passes
pub record RowOf (app : App) (table : PlainTable) (s : State) (c : ℕ) (t : Test) : Type 0 where
  pub row : TableRow
  pub among : Contains table.rows row
  pub point : point_of s ≡ row.point
  pub value : HasPassing c t row.entry

module _ (app : App) (table : PlainTable) (written : IsWritten app table) where
  module _ (c : ℕ) (t : Test) (known : c < component_count app) where
    -- what a row shows, a state does
    pub state_of_row : (row : TableRow) → Contains table.rows row → HasPassing c t row.entry → StateAt app table row.point c t
    state_of_row row listed h =
        let x = state_with_value app table written row listed c h.value h.member in
        record { state = x.state; inside = x.inside; point = x.point; passes = ap (passes t) (x.parts c known ∙ is_the_value app table written row listed c h.value) ∙ h.passes }

    -- and what a state shows, its row does
    pub row_by_state : (s : State) → In app (sets_of table) s → IsTrue (passes t (abstract_of app s c)) → RowOf app table s c t
    row_by_state s inside h =
        let r = row_of_state app table written s inside in
        record { row = r.row; among = r.among; point = r.at.point; value = record { value = abstract_of app s c; member = r.at.within c known; passes = h } }

    pub state_shows : (row : TableRow) → Contains table.rows row → HasPassing c t row.entry → ShowsState c t app (sets_of table)
    state_shows row listed h = (let x = state_of_row row listed h in record { state = x.state; inside = x.inside; passes = x.passes })

    pub none_shows : (k : ℕ) → IsOfNone (λ (row : TableRow). HasPassing c t row.entry) table.rows k → length table.rows < k + 1 → ShowsState c t app (sets_of table) → ⊥
    none_shows k none whole h =
        let r = row_by_state h.state h.inside h.passes in
        of_no_row (λ (row : TableRow). HasPassing c t row.entry) table.rows k none r.row r.among whole r.value

  -- ---- where a state stands

  pub block_reached : (b : BlockNo) (row : TableRow) → Contains table.rows row → StandsAt row.point b → IsReachedBlock app (sets_of table) b
  block_reached b row listed h =
      let x = some_state app table written row listed in
      record { state = x.state; inside = x.inside; stands = subst (λ (p : Point). StandsAt p b) (sym x.point) h }
