-- Rows that have each choice of numbers with which a cell wasn't evaluated have each such state.
use Rattle.std.proofs.Common.{◌≡◌, ◌⊎◌, ℕ, ◌<◌, List, IsTrue, sym, ap, subst, ◌∙◌, inl, inr, arith}
use Rattle.std.specs.{Prelude.{option_map, Contains}, Option.{ForSome}}
use Rattle.std.proofs.lemmas.Bool.{cases_lt}
use Rattle.osek_standard.specs.declared.{app.App.{App}, state.State.{State}, point.Point.{Point}}
use Rattle.osek_standard.proofs.Members.{among_map, map_among, among_contained, contained_among}
use Rattle.abstract_state.specs.{declared.table.TableRow.{TableRow}, Components.{abstract_of, component_count}, Domains.{domains_of, IsBelow}}
use Rattle.flow_model.specs.Effects.{IsAt}
use Rattle.numbered_sets.specs.declared.{numbered_entry.NumberedEntry.{NumberedEntry}, table.NumberedRow.{NumberedRow}}
use Rattle.numbered_sets.specs.{Numbers.{has_number}, NumberedEntries.{numbers_at, number_domains}, Pools.{Values, values_at, IsNumberOf}, Views.{plain_entry, AreNumbersOf}}
use Rattle.numbered_sets.specs.PlainTables.{plain_row, plain_rows}
use Rattle.numbered_sets.proofs.KnownNumbers.{order_onward}
use Rattle.point_exits.proofs.{EntryCounts.{numbers_counted}, NumberLaws.{member_number, number_member}}
use Rattle.state_flow.specs.declared.cells.Cell.{Cell}
use Rattle.state_flow.specs.{PlainCells.{plain_cell}, Parts.{IsChoiceOf, AreRowsBeside}, Numbering.{HasState, HadState, AreRowsOfCell}}

module _ (app : App) (pool : List Values) (cell : Cell NumberedEntry) (rows : List NumberedRow) (alike : number_domains cell.entry ≡ domains_of app) (numbers : AreNumbersOf pool cell.entry)
    (kept : ForSome cell.before (AreNumbersOf pool)) (beside : AreRowsBeside cell.point cell.entry cell.before rows) where
  -- the number by which the value of a component of the state is there
  record IsNumberFor (s : State) (c n : ℕ) : Type 0 where
    is : IsNumberOf (values_at pool c) (abstract_of app s c) n
    there : IsTrue (has_number (numbers_at cell.entry c) n)

  module _ (s : State) (at : IsAt app cell.point (plain_entry pool cell.entry) s) where
    chosen : (c : ℕ) → (n : ℕ) × (c < component_count app → IsNumberFor s c n)
    chosen c = elim (cases_lt c (component_count app)) [
      | inl lt ↦ (let x = member_number pool cell.entry c (abstract_of app s c) (at.within c lt) in (x.number, λ again. record { is = x.is; there = x.has_it }))
      | inr le ↦ (0, λ lt. absurd (omega (arith, lt, le)))
    ]

    choice : ℕ → ℕ
    choice c = (chosen c).0

    is_choice : IsChoiceOf cell.entry choice
    unfolding choice chosen
    is_choice = record { each = λ c lt. ((chosen c).1 (let size = numbers_counted app cell.entry alike in omega (arith, lt, size))).there }

    -- an entry that has the choice has the state
    has_it : (e : NumberedEntry) → number_domains e ≡ number_domains cell.entry → IsChoiceOf e choice → IsAt app cell.point (plain_entry pool e) s
    unfolding choice chosen
    has_it e same picked = record {
      well = at.well;
      regular = at.regular;
      point = at.point;
      within = λ c lt. number_member pool e c (abstract_of app s c) (choice c) (picked.each c (let size = numbers_counted app e (same ∙ alike) in omega (arith, lt, size))) ((chosen c).1 lt).is;
    }

    told : HadState app (plain_cell pool cell) s ⊎ HasState app (plain_rows pool rows) s
    told = elim (beside.all choice is_choice) [
      | inl had ↦
          inl
          (record {
            entry = plain_entry pool had.entry;
            is = ap (option_map (plain_entry pool)) had.is;
            at = has_it had.entry ((kept had.entry had.is).domains ∙ sym numbers.domains) had.chosen;
          })
      | inr has ↦
          (let part = beside.parts has.row has.among in
          inr
          (record {
            row = plain_row pool has.row;
            among = among_contained (plain_rows pool rows) (plain_row pool has.row) (among_map (plain_row pool) has.row rows (contained_among rows has.row has.among));
            at = subst (λ (p : Point). IsAt app p (plain_entry pool has.row.entry) s) (sym part.at) (has_it has.row.entry part.domains has.chosen);
          }))
    ]

  origin : (row : TableRow) → Contains (plain_rows pool rows) row → (r : NumberedRow) × Contains rows r × (row ≡ plain_row pool r)
  origin row m = let x = map_among (plain_row pool) row rows (contained_among (plain_rows pool rows) row m) in (x.0, among_contained rows x.0 x.1, x.2)

  pub rows_of_cell : AreRowsOfCell app (plain_cell pool cell) (plain_rows pool rows)
  rows_of_cell = record {
    at = λ row m. let x = origin row m in ap (λ (r : TableRow). r.point) x.2 ∙ (beside.parts x.0 x.1).at;
    below = λ row m.
        (let x = origin row m in
        subst (λ (r : TableRow). IsBelow r.entry (plain_entry pool cell.entry)) (sym x.2) (order_onward pool x.0.entry cell.entry (beside.parts x.0 x.1).below));
    all = told;
  }
