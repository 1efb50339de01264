-- Bytes spell a table or have a first fault.
use Rattle.std.proofs.Common.{◌≡◌, ◌⊎◌, ℕ, zero, suc, ◌+◌, ◌<◌, ◌≤◌, List, [], ◌∷◌, ◌++◌, length, map, take, drop, get_or, refl, sym, ap, subst, ◌∙◌, inl, inr, arith, Some, None}
use Rattle.std.specs.declared.option.Option.{Option}
use Rattle.std.proofs.lemmas.{Bool.{cases_lt}, List.{length_push, length-map, take_all, get_or_default, take-append-drop}}
use Rattle.osek_standard.specs.{declared.{app.App.{App}, point.Point.{Point}}, Points.{points_in_order}}
use Rattle.osek_standard.specs.declared.point.Point.TheVariants as point
use Rattle.abstract_state.specs.declared.table.{ValueSet.{ValueSet}, PlainEntry.{PlainEntry}, TableRow.{TableRow}, PlainTable.{PlainTable}}
use Rattle.abstract_state.specs.{Components.{components, component_at, component_count}, Domains.{domain_of, HasMasks}}
use Rattle.abstract_state.proofs.ComponentLaws.{component_known}
use Rattle.numbered_sets.specs.PlainTables.{row_at}
use Rattle.table_codec.specs.{declared.fault.{Fault.{Fault}, TableFault.{TableFault}, TableRule.TheVariants.{K1, K2, K3, K5}}, Spelling.{magic, set_bytes, entry_bytes, spelling, IsSpellable}}
use Rattle.table_codec.specs.Faults.{fault_at, IsSetFault, IsEntryFault, IsPointFault, IsRowFault, IsTableFault, bad_magic, magic_cut, other_magic, bad_row, IsFirstFault, located}
use Rattle.table_codec.specs.{Sets.{IsReadEntry}, Rows.{IsReadRow, IsReadTable}}
use Rattle.table_codec.proofs.{Decisions.{Decided, decide_bytes, AreBytes, bytes_behind}, SomeSets.{SetFound, set_found}}
use Rattle.table_codec.proofs.{ReadSoFar.{AreSetsSoFar, no_sets, next_set, members}, TableReads.{behind_fault, spelled_whole}, WrittenTables.{point_at}}
use Rattle.table_codec.proofs.RowsSoFar.{AreRowsSoFar, absent_row, present_row, bad_row as row_fault, all_rows}

-- ---- an entry

abbrev EntryFound : App → Point → List ℕ → Type 0
EntryFound app p bytes = ((entry : PlainEntry) × (rest : List ℕ) × IsReadEntry app p bytes rest entry) ⊎ ((f : Fault) × IsEntryFault app p bytes f)

module _ (app : App) (p : Point) (bytes : List ℕ) where
  sets_from : (left : ℕ) (sets : List ValueSet) (rest : List ℕ) → AreSetsSoFar app p bytes sets rest → component_count app ≡ length sets + left → AreBytes rest → EntryFound app p bytes
  sets_from zero sets rest h e all =
      inl (record { sets = sets }, rest, record { good = h.good; domains = h.domains ∙ ap (map (domain_of app)) (take_all (length sets) (components app) (omega (arith, e))); are = h.are })
  sets_from (suc left) sets rest h e all =
      by_set (set_found app p (component_at app (length sets)) (component_known app (length sets) (omega (arith, e))) rest all) (λ more after k d l. sets_from left more after k d l)
    where
      Goes : Type 0
      Goes = (more : List ValueSet) (after : List ℕ) → AreSetsSoFar app p bytes more after → component_count app ≡ length more + left → AreBytes after → EntryFound app p bytes

      by_set : SetFound app p (component_at app (length sets)) rest → Goes → EntryFound app p bytes
      by_set (inl found) goes =
          goes (sets ++ found.0 ∷ []) found.1 (next_set app p bytes sets rest found.1 found.0 (omega (arith, e)) h found.2) (omega (arith, e, length_push sets found.0))
          (bytes_behind rest (set_bytes (component_at app (length sets)) found.0.members) found.1 found.2.are all)
      by_set (inr bad) goes =
          let size : length sets ≡ length (members sets) = sym (length-map sets (λ (set : ValueSet). set.members)) in
          inr (
            bad.0,
            record {
              sets = members sets;
              rest = rest;
              few = omega (arith, e, size);
              good = h.good;
              are = h.are;
              next = subst (λ (n : ℕ). IsSetFault app p (component_at app n) rest bad.0) size bad.1;
            },
          )

  entry_found : AreBytes bytes → EntryFound app p bytes
  entry_found all = sets_from (component_count app) [] bytes (no_sets app p bytes) (omega arith) all

-- ---- a point's byte and entry

abbrev RowFound : App → Point → List ℕ → Type 0
RowFound app p bytes = ((found : Option PlainEntry) × (rest : List ℕ) × IsReadRow app p bytes rest found) ⊎ ((f : Fault) × IsPointFault app p bytes f)

row_found : (app : App) (p : Point) (bytes : List ℕ) → AreBytes bytes → RowFound app p bytes
row_found app p [] all = inr (fault_at K1 [], inl refl)
row_found app p (zero ∷ rest) all = inl (None, rest, refl)
row_found app p (suc zero ∷ rest) all = elim (entry_found app p rest (λ i. all (suc i))) [
  | inl h ↦ inl (Some h.0, h.1, (rest, refl, h.2))
  | inr bad ↦ inr (bad.0, inr (rest, refl, bad.1))
]
row_found app p (suc (suc n) ∷ rest) all = inr (fault_at K3 (suc (suc n) ∷ rest), inl (omega arith, refl))

-- ---- the rows of all points

module _ (app : App) (masks : HasMasks app) (bytes : List ℕ) where
  abbrev RowsFound : Type 0
  RowsFound = ((table : PlainTable) × (rest : List ℕ) × IsReadTable app bytes rest table) ⊎ ((f : Fault) × IsRowFault app bytes f)

  rows_from : (left place : ℕ) (rows : List TableRow) (rest : List ℕ) → AreRowsSoFar app bytes place rows rest → length (points_in_order app) ≡ place + left → AreBytes rest → RowsFound
  rows_from zero place rows rest h e all = inl (record { rows = rows }, rest, all_rows app bytes place rows rest (omega (arith, e)) h)
  rows_from (suc left) place rows rest h e all = by_row (row_found app (point_at app place) rest all) (λ more after k d l. rows_from left (place + 1) more after k d l)
    where
      lt : place < length (points_in_order app)
      lt = omega (arith, e)

      at : (d : Point) → get_or (points_in_order app) place d ≡ point_at app place
      at d = get_or_default (points_in_order app) place d point.Halted lt

      Goes : Type 0
      Goes = (more : List TableRow) (after : List ℕ) → AreRowsSoFar app bytes (place + 1) more after → length (points_in_order app) ≡ place + 1 + left → AreBytes after → RowsFound

      by_row : RowFound app (point_at app place) rest → Goes → RowsFound
      by_row (inl (None, after, read)) goes = goes rows after (absent_row app bytes place rows rest (point_at app place) lt at h after read) (omega (arith, e)) (bytes_behind rest (0 ∷ []) after read all)
      by_row (inl (Some entry, after, (mid, is, read))) goes =
          goes (rows ++ row_at (point_at app place) entry ∷ []) after (present_row app bytes place rows rest (point_at app place) lt at h masks entry mid after is read) (omega (arith, e))
          (bytes_behind mid (entry_bytes app entry) after read.are (bytes_behind rest (1 ∷ []) mid is all))
      by_row (inr bad) goes = inr (bad.0, row_fault app bytes place rows rest (point_at app place) lt at h bad.0 bad.1)

  rows_found : AreBytes bytes → RowsFound
  rows_found all = rows_from (length (points_in_order app)) 0 [] bytes (record { each = tt; up = tt; before = tt; are = refl }) (omega arith) all

-- ---- the table

abbrev TableFound : App → List ℕ → Type 0
TableFound app bytes = ((table : PlainTable) × IsSpellable app table × (spelling app table ≡ bytes)) ⊎ ((f : Fault) × IsTableFault app bytes f)

module _ (app : App) (masks : HasMasks app) (bytes : List ℕ) where
  by_rest : (rows : List ℕ) → bytes ≡ magic ++ rows → (table : PlainTable) (rest : List ℕ) → IsReadTable app rows rest table → TableFound app bytes
  by_rest rows e table [] read = inl (table, read.spellable, spelled_whole app bytes rows [] table e read refl)
  by_rest rows e table (n ∷ rest) read = inr (fault_at K5 (n ∷ rest), behind_fault app bytes rows (n ∷ rest) table e read (fault_at K5 (n ∷ rest)) (omega arith) refl)

  by_rows : (rows : List ℕ) → bytes ≡ magic ++ rows → AreBytes bytes → TableFound app bytes
  by_rows rows e all = elim (rows_found app masks rows (bytes_behind bytes magic rows e all)) [
    | inl h ↦ by_rest rows e h.0 h.1 h.2
    | inr bad ↦ inr (bad.0, bad_row rows e bad.1)
  ]

  by_magic : 8 ≤ length bytes → AreBytes bytes → Decided (take 8 bytes ≡ magic) → TableFound app bytes
  by_magic long all (inl is) = by_rows (drop 8 bytes) (sym (take-append-drop 8 bytes) ∙ ap (λ (l : List ℕ). l ++ drop 8 bytes) is) all
  by_magic long all (inr other) = inr (fault_at K2 bytes, bad_magic (other_magic long other refl))

  table_found : AreBytes bytes → TableFound app bytes
  table_found all = elim (cases_lt (length bytes) 8) [
    | inl cut ↦ inr (fault_at K1 bytes, bad_magic (magic_cut cut refl))
    | inr long ↦ by_magic long all (decide_bytes (take 8 bytes) magic)
  ]

  pub some_table : AreBytes bytes → ((table : PlainTable) × IsSpellable app table × (spelling app table ≡ bytes)) ⊎ ((f : TableFault) × IsFirstFault app bytes f)
  some_table all = elim (table_found all) [
    | inl h ↦ inl h
    | inr bad ↦ inr (located (length bytes) bad.0, record { fault = bad.0; first = bad.1; is = refl })
  ]
