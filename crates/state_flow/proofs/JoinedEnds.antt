-- Ends with numbers of different components, at one point: together they have what the entry has.
use Rattle.std.proofs.Common.{◌≡◌, ◌≢◌, ℕ, List, [], ◌∷◌, sym, ap, subst, ◌∙◌, inl, inr, IsTrue, get_or-set_other}
use Rattle.std.specs.Prelude.{Contains}
use Rattle.std.proofs.lemmas.{Bool.{cases_eq}, List.Elements.{All-from_get_or, Contains-push}}
use Rattle.osek_standard.specs.{declared.{app.App.{App}, point.Point.{Point}}, Points.{IsPoint}}
use Rattle.osek_standard.proofs.Members.{among_contained, contained_among, among_map, map_among}
use Rattle.abstract_state.specs.declared.{value.PartValue.{PartValue}, table.{ValueSet.{ValueSet}, TableRow.{TableRow}}}
use Rattle.abstract_state.specs.{Components.{IsAllowed}, Domains.{HasMasks}, Tables.{Sets, empty_set, set_at, is_member}, ValueOrder.{IsAscending}}
use Rattle.numbered_sets.specs.{declared.numbered_entry.NumberedEntry.{NumberedEntry}, Numbers.{has_number}, NumberedEntries.{no_set, numbers_at}, Pools.{Values, values_at}}
use Rattle.numbered_sets.specs.{Views.{values_with, plain_set, plain_entry, AreNumbersOf}, PlainTables.{row_at}}
use Rattle.numbered_sets.proofs.{PlainLaws.{ascending_in_order, plain_set_at}, ViewLaws.{same_domains}}
use Rattle.point_exits.specs.{declared.group.NumberEnd.{NumberEnd}, Groups.{with_end, IsKnownEnd}, Rows.{IsProperRow, IsRowIn}}
use Rattle.point_exits.proofs.{HeldLaws.{held_number}, NumberLaws.{number_member}, GrowingPools.{end_known}, ProperRows.{proper_row}}
use Rattle.state_flow.specs.declared.cells.Cell.{Cell}
use Rattle.state_flow.specs.{Rows.{sets_in}, PlainCells.{plain_cells}, ExitRows.{end_row, rows_with, AreProperRows, AreRowsJoined, AreTogether}}

module _ (app : App) (pool : List Values) (entry : NumberedEntry) (xs : List NumberEnd) (p : Point) (known : AreNumbersOf pool entry) (ends : (x : NumberEnd) → Contains xs x → IsKnownEnd pool entry x) (t : AreTogether entry xs p) where
  abbrev whole : TableRow
  whole = row_at p (plain_entry pool entry)

  -- an end has all values of the other components
  beside : (x : NumberEnd) (c : ℕ) → c ≢ x.component → set_at (plain_entry pool (with_end entry x)) c ≡ set_at (plain_entry pool entry) c
  beside x c other = plain_set_at pool (with_end entry x) c ∙ ap (plain_set (values_at pool c)) (get_or-set_other entry.sets x.component c x.numbers no_set other) ∙ sym (plain_set_at pool entry c)

  -- and no other values
  within : (x : NumberEnd) → Contains xs x → (c : ℕ) (v : PartValue) → IsTrue (is_member (set_at (plain_entry pool (with_end entry x)) c) v) → IsTrue (is_member (set_at (plain_entry pool entry) c) v)
  within x m c v h = elim (cases_eq c x.component) [
    | inl is ↦
        (let n = held_number app pool entry x.component x.numbers (ends x m).component v (ap (λ (i : ℕ). is_member (set_at (plain_entry pool (with_end entry x)) i) v) (sym is) ∙ h) in
        ap (λ (i : ℕ). is_member (set_at (plain_entry pool entry) i) v) is ∙ number_member pool entry x.component v n.number (t.part x m n.number n.has_it) n.is)
    | inr other ↦ ap (λ (s : ValueSet). is_member s v) (sym (beside x c other)) ∙ h
  ]

  -- each set is that of some end
  record HasSet (c : ℕ) : Type 0 where
    end : NumberEnd
    listed : Contains xs end
    same : set_at (plain_entry pool (with_end entry end)) c ≡ set_at (plain_entry pool entry) c

  has_set : (c : ℕ) → HasSet c
  has_set c = elim (cases_eq c t.first.component) [
    | inl is ↦ record { end = t.second; listed = t.second_listed; same = beside t.second c (λ e. t.apart (sym is ∙ e)) }
    | inr other ↦ record { end = t.first; listed = t.first_listed; same = beside t.first c other }
  ]

  row_listed : (x : NumberEnd) → Contains xs x → Contains (rows_with pool entry xs) (end_row pool entry x)
  row_listed x m = among_contained (rows_with pool entry xs) (end_row pool entry x) (among_map (end_row pool entry) x xs (contained_among xs x m))

  pub whole_proper : HasMasks app → AreProperRows app (rows_with pool entry xs) → IsProperRow app (row_at p (plain_entry pool entry))
  whole_proper masks h =
      let first = h (end_row pool entry t.first) (row_listed t.first t.first_listed) in
      proper_row app masks p (plain_entry pool entry) (subst (IsPoint app) (t.target t.first t.first_listed) first.row.point)
      (same_domains pool 0 entry.sets ∙ known.domains ∙ sym (end_known pool entry t.first known (ends t.first t.first_listed)).domains ∙ sym (same_domains pool 0 (with_end entry t.first).sets) ∙ first.row.domains)
      (All-from_get_or (λ (s : ValueSet). IsAscending s.members) (plain_entry pool entry).sets empty_set (λ c _.
      subst (λ (s : ValueSet). IsAscending s.members) (sym (plain_set_at pool entry c)) (ascending_in_order (values_with (values_at pool c) (has_number (numbers_at entry c))))))
      (λ c v lt m.
      (let e = has_set c in
      subst (λ (q : Point). IsAllowed app q c v) (t.target e.end e.listed) ((h (end_row pool entry e.end) (row_listed e.end e.listed)).allowed c v lt (ap (λ (s : ValueSet). is_member s v) e.same ∙ m))))
      (λ c lt.
      (let e = has_set c in
      let f = (h (end_row pool entry e.end) (row_listed e.end e.listed)).filled c lt in
      record { value = f.value; member = ap (λ (s : ValueSet). is_member s f.value) (sym e.same) ∙ f.member }))

  -- an end's row is in a table with the entry's, and this one where all of theirs are
  end_in : (table : Sets) (x : NumberEnd) → Contains xs x → IsRowIn table (row_at p (plain_entry pool entry)) → IsRowIn table (end_row pool entry x)
  end_in table x m h = record {
    entry = subst (λ (q : Point). IsTrue (table.entry q)) (sym (t.target x m)) h.entry;
    has = λ c v there. subst (λ (q : Point). IsTrue (table.has q c v)) (sym (t.target x m)) (h.has c v (within x m c v there));
  }

  whole_in : (table : Sets) → ((row : TableRow) → Contains (rows_with pool entry xs) row → IsRowIn table row) → IsRowIn table (row_at p (plain_entry pool entry))
  whole_in table h = record {
    entry = subst (λ (q : Point). IsTrue (table.entry q)) (t.target t.first t.first_listed) (h (end_row pool entry t.first) (row_listed t.first t.first_listed)).entry;
    has = λ c v m.
        (let e = has_set c in
        subst (λ (q : Point). IsTrue (table.has q c v)) (t.target e.end e.listed) ((h (end_row pool entry e.end) (row_listed e.end e.listed)).has c v (ap (λ (s : ValueSet). is_member s v) e.same ∙ m)));
  }

  pub ends_joined : (cells after : List (Cell NumberedEntry)) → AreRowsJoined app pool cells (row_at p (plain_entry pool entry) ∷ []) after → AreRowsJoined app pool cells (rows_with pool entry xs) after
  ends_joined cells after h =
      let j = h.joined in
      record {
        known = h.known;
        joined = record {
          cells_proper = j.cells_proper;
          evaluated = j.evaluated;
          known = j.known;
          grows = j.grows;
          joins = λ row m.
              (let x = map_among (end_row pool entry) row xs (contained_among (rows_with pool entry xs) row m) in
              subst (IsRowIn (sets_in (plain_cells pool after))) (sym x.2) (end_in (sets_in (plain_cells pool after)) x.0 (among_contained xs x.0 x.1) (j.joins whole (Contains-push [] whole))));
          least = λ other old new. j.least other old (λ row m. subst (IsRowIn other) (is_whole row m) (whole_in other new));
          counts = j.counts;
          sizes = j.sizes;
        };
      }
    where
      is_whole : (row : TableRow) → Contains (whole ∷ []) row → whole ≡ row
      is_whole row m = elim (contained_among (whole ∷ []) row m) [ inl is ↦ sym is | inr none ↦ absurd none ]
