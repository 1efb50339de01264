-- The states of a written table, and the rows that have them.
use Rattle.std.proofs.Common.{◌≡◌, ℕ, ◌<◌, Bool, true, false, IsTrue, refl, sym, ap, subst}
use Rattle.std.specs.Prelude.{Contains, ◌==◌}
use Rattle.std.proofs.lemmas.Bool.{eq-eqb, eqb-true}
use Rattle.osek_standard.specs.{declared.{app.App.{App}, point.Point.{Point}, state.State.{State}}, Points.{point_of}}
use Rattle.abstract_state.specs.declared.{value.PartValue.{PartValue}, table.{TableRow.{TableRow}, PlainTable.{PlainTable}}}
use Rattle.abstract_state.specs.{Components.{component_count, abstract_of}, Concrete.{AreAllowed, state_of}, Tables.{In, set_at, is_member, sets_of}, Written.{IsWritten}}
use Rattle.abstract_state.proofs.{ConcreteLaws.{state_has_parts, choice_allowed}, EqualityLaws.{written_entry}}
use Rattle.flow_model.specs.Effects.{AreIn, IsAt}
use Rattle.numbered_sets.proofs.WrittenRows.{row_there, row_allowed}
use Rattle.flow_exits.proofs.ExactExits.{some_value}
use Rattle.table_rows.proofs.TableRows.{row_proper, in_row, row_in}

-- a row of the state's point, which has its values
pub record RowOf (app : App) (table : PlainTable) (s : State) : Type 0 where
  pub row : TableRow
  pub among : Contains table.rows row
  pub at : IsAt app row.point row.entry s

-- a state in the table with these values, at a point
pub record StateWith (app : App) (table : PlainTable) (p : Point) (value : ℕ → PartValue) : Type 0 where
  pub state : State
  pub inside : In app (sets_of table) state
  pub point : point_of state ≡ p
  pub parts : (c : ℕ) → c < component_count app → abstract_of app state c ≡ value c

module _ (app : App) (table : PlainTable) (written : IsWritten app table) where
  pub row_of_state : (s : State) → In app (sets_of table) s → RowOf app table s
  row_of_state s h =
      let r = (written_entry table (point_of s)).0 h.entry in
      record {
        row = r.row;
        among = r.among;
        at = in_row app table written r.row r.among s h (sym r.point);
      }

  module _ (row : TableRow) (listed : Contains table.rows row) where
    -- values of the row are those of a state
    pub state_with : (value : ℕ → PartValue) → AreIn app row.entry value → StateWith app table row.point value
    state_with value within =
        let allowed : AreAllowed app row.point value = λ c lt. row_allowed app table written row listed c (value c) lt (within c lt) in
        let free = choice_allowed app row.point value (row_there app table written row listed).point allowed in
        let has = state_has_parts app row.point value free.0 allowed free.1 in
        let s = state_of app row.point value free.0 in
        record {
          state = s;
          inside = row_in app table written row listed s (record {
            well = has.well;
            regular = has.regular;
            point = has.point;
            within = λ c lt. subst (λ (v : PartValue). IsTrue (is_member (set_at row.entry c) v)) (sym (has.parts c lt)) (within c lt);
          });
          point = has.point;
          parts = has.parts;
        }

    -- some value of each component
    abbrev pub chosen : ℕ → PartValue
    chosen c = (some_value app row.entry (row_proper app table written row listed).filled c).0

    chosen_within : AreIn app row.entry chosen
    chosen_within c lt = (some_value app row.entry (row_proper app table written row listed).filled c).1 lt

    -- the row has a state
    pub some_state : StateWith app table row.point chosen
    some_state = state_with chosen chosen_within

    -- and one with a value that it has of a component
    module _ (c : ℕ) (v : PartValue) where
      abbrev value_by : Bool → ℕ → PartValue
      value_by true k = v
      value_by false k = chosen k

      abbrev pub with_value : ℕ → PartValue
      with_value k = value_by (k == c) k

      within_by : IsTrue (is_member (set_at row.entry c) v) → (k : ℕ) (b : Bool) → (k == c) ≡ b → k < component_count app → IsTrue (is_member (set_at row.entry k) (value_by b k))
      within_by member k true e lt = subst (λ (n : ℕ). IsTrue (is_member (set_at row.entry n) v)) (sym (eqb-true k c e)) member
      within_by member k false e lt = chosen_within k lt

      pub state_with_value : IsTrue (is_member (set_at row.entry c) v) → StateWith app table row.point with_value
      state_with_value member = state_with with_value (λ k lt. within_by member k (k == c) refl lt)

      pub is_the_value : with_value c ≡ v
      is_the_value = ap (λ (b : Bool). value_by b c) (eq-eqb c c refl)
