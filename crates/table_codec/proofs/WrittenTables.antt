-- A written table's rows at the points: each point's byte and entry stand at their place.
use Rattle.std.proofs.Common.{◌≡◌, ℕ, ◌^◌, ◌<◌, Bool, true, cond, List, [], ◌∷◌, ◌++◌, length, map, filter, get_or, refl, sym, ap, subst, ◌∙◌, inl, inr, arith, append_assoc, IsTrue, Some, None, All}
use Rattle.std.specs.{Prelude.{slice_get, Contains}, List.{flat_map, list_any}, declared.option.Option.{Option}}
use Rattle.std.proofs.{Math.Seq.{get_or-append_seam}, lemmas.Bool.{cases_Bool}}
use Rattle.std.specs.Option.{option_map}
use Rattle.std.proofs.lemmas.{List.{length_push, length-map, get_or_default, Concat.{flat_map-cons}, Elements.{All-contains}}, Map.Views.{All-from_any}, Option.{slice_get_cases, slice_get-map}}
use Rattle.osek_standard.specs.declared.{app.App.{App}, point.Point.{Point}}
use Rattle.osek_standard.specs.declared.point.Point.TheVariants as point
use Rattle.osek_standard.proofs.Members.{Among, among_contained}
use Rattle.abstract_state.specs.declared.{value.PartValue.{PartValue}, table.{ValueSet.{ValueSet}, PlainEntry.{PlainEntry}, TableRow.{TableRow}, PlainTable.{PlainTable}}}
use Rattle.abstract_state.specs.{ValueOrder.{same_part, IsAscending}, Components.{component_at, component_count, IsPart}, Tables.{empty_set, set_at, is_member, is_row_of}}
use Rattle.abstract_state.specs.Written.{IsRow, IsWritten}
use Rattle.abstract_state.proofs.{EqualityLaws.{point_right}, OrderLaws.{part_laws}}
use Rattle.numbered_sets.proofs.WrittenRows.{row_there, row_allowed, row_filled}
use Rattle.table_codec.specs.declared.fault.Fault.{Fault}
use Rattle.osek_standard.specs.Points.{points_in_order}
use Rattle.table_codec.specs.{Spelling.{members_of, entry_bytes, rows_bytes, point_bytes, IsSpellable}, Faults.{AreGoodValues, AreGoodSets, IsPointFault}, Sets.{IsReadEntry}, Rows.{IsReadRow}}
use Rattle.table_codec.proofs.EntryFaults.{entry_size, one_row, row_clash, one_point_fault}
use Rattle.table_codec.proofs.{Merging.{row_number, first_entry, found_in, rows_of, AreAt, Up, up_from_sorted, rows_found}, PointOrder.{points_up, point_among}, Sequences.{Runs}}

filter_first : (f : TableRow → Bool) (rows : List TableRow) (row : TableRow) (more : List TableRow) → filter f rows ≡ row ∷ more → Among row rows × (f row ≡ true)
filter_first f [] row more e = absurd (cc)
filter_first f (r ∷ rows) row more e = elim (cases_Bool (f r)) [
  | inl passes ↦
      (let kept : filter f (r ∷ rows) ≡ r ∷ filter f rows = ap (λ (b : Bool). cond b (r ∷ filter f rows) (filter f rows)) passes in
      let same : r ≡ row = cc in
      (inl (sym same), ap f (sym same) ∙ passes))
  | inr fails ↦
      (let left : filter f (r ∷ rows) ≡ filter f rows = ap (λ (b : Bool). cond b (r ∷ filter f rows) (filter f rows)) fails in
      let rest = filter_first f rows row more (sym left ∙ e) in
      (inr rest.0, rest.1))
]

some_member : (vs : List PartValue) (v : PartValue) → IsTrue (list_any (same_part v) vs) → 0 < length vs
some_member [] v m = absurd (cc)
some_member (w ∷ vs) v m = omega arith

module _ (app : App) (table : PlainTable) (written : IsWritten app table) where
  module _ (row : TableRow) (listed : Contains table.rows row) where
    there : IsRow app row
    there = row_there app table written row listed

    good_values : (c : ℕ) (set : ValueSet) → c < length row.entry.sets → slice_get row.entry.sets c ≡ Some set → get_or row.entry.sets c set ≡ set → AreGoodValues app row.point (component_at app c) set.members
    good_values c set lt is get =
        let known : c < component_count app = omega (arith, lt, entry_size app row.point row.entry there.domains, length-map row.entry.sets (λ (x : ValueSet). x.members)) in
        let same : set_at row.entry c ≡ set = get_or_default row.entry.sets c empty_set set lt ∙ get in
        let some = row_filled app table written row listed c known in
        record {
          some = some_member set.members some.0 (subst (λ (x : ValueSet). IsTrue (is_member x some.0)) same some.1);
          allowed = All-from_any part_laws (IsPart app row.point (component_at app c)) set.members
              (λ v m. row_allowed app table written row listed c v known (subst (λ (x : ValueSet). IsTrue (is_member x v)) (sym same) m));
          ascending = subst (λ (x : ValueSet). IsAscending x.members) get (there.sound.sets c set lt).ascending;
        }

    -- the set of a row with these values
    pub set_found : (c : ℕ) (vs : List PartValue) → slice_get (members_of row.entry) c ≡ Some vs → (set : ValueSet) × (c < length row.entry.sets) × (get_or row.entry.sets c set ≡ set) × (set.members ≡ vs) × AreGoodValues app row.point (component_at app c) set.members
    set_found c vs e = elim ((slice_get_cases row.entry.sets c).1) [
      | inl x ↦
          (let some : slice_get (members_of row.entry) c ≡ Some x.0.members = slice_get-map (λ (set : ValueSet). set.members) row.entry.sets c ∙ ap (option_map (λ (set : ValueSet). set.members)) x.2 in
          let same : x.0.members ≡ vs = cc in
          (x.0, x.1, x.3, same, good_values c x.0 x.1 x.2 x.3))
      | inr x ↦
          (let no : slice_get (members_of row.entry) c ≡ None = slice_get-map (λ (set : ValueSet). set.members) row.entry.sets c ∙ ap (option_map (λ (set : ValueSet). set.members)) x.1 in
          absurd (cc))
    ]

    -- the values of a row's sets are good
    pub row_values : (c : ℕ) (vs : List PartValue) → slice_get (members_of row.entry) c ≡ Some vs → AreGoodValues app row.point (component_at app c) vs
    row_values c vs e = (let found = set_found c vs e in subst (AreGoodValues app row.point (component_at app c)) found.3 found.4)

  pub rows_up : Up row_number table.rows
  rows_up = up_from_sorted row_number table.rows written.ascending

  pub all_at : (rows : List TableRow) → ((row : TableRow) → Among row rows → Among row table.rows) → AreAt (points_in_order app) rows
  all_at [] h = tt
  all_at (row ∷ rows) h =
      (point_among app row.point (row_there app table written row (among_contained table.rows row (h row (inl refl)))).point, all_at rows (λ x m. h x (inr m)))

  -- so the rows are those of the points' entries
  pub rows_are : rows_of (points_in_order app) (map (found_in table.rows) (points_in_order app)) ≡ table.rows
  rows_are = rows_found (points_in_order app) table.rows (points_up app) rows_up (all_at table.rows (λ row m. m))

-- ---- of a table that the bytes tell

module _ (app : App) (table : PlainTable) (spellable : IsSpellable app table) where
  module _ (row : TableRow) (listed : Contains table.rows row) where
    -- the sets of a row are good
    pub row_good : AreGoodSets app row.point (members_of row.entry)
    row_good c vs e =
        let found = set_found app table spellable.written row listed c vs e in
        let few = All-contains (λ (x : TableRow). All (λ (set : ValueSet). length set.members < 2 ^ 32) x.entry.sets) table.rows row spellable.few listed c found.0 found.1 in
        record {
          values = row_values app table spellable.written row listed c vs e;
          few = subst (λ (ws : List PartValue). length ws < 2 ^ 32) found.3 (subst (λ (set : ValueSet). length set.members < 2 ^ 32) found.2 few);
        }

    pub row_read : (rest : List ℕ) → IsReadEntry app row.point (entry_bytes app row.entry ++ rest) rest row.entry
    row_read rest = record { good = row_good; domains = (row_there app table spellable.written row listed).domains; are = refl }

  -- a point's byte and entry
  pub point_read : (p : Point) (rest : List ℕ) → IsReadRow app p (point_bytes app table.rows p ++ rest) rest (found_in table.rows p)
  point_read p rest = by_rows (filter (is_row_of p) table.rows) refl
    where
      by_rows : (rows : List TableRow) → filter (is_row_of p) table.rows ≡ rows → IsReadRow app p (rows_bytes app rows ++ rest) rest (first_entry rows)
      by_rows [] e = refl
      by_rows (row ∷ more) e =
          let first = filter_first (is_row_of p) table.rows row more e in
          let same : row.point ≡ p = sym (point_right p row.point first.1) in
          (entry_bytes app row.entry ++ rest, refl, subst (λ (q : Point). IsReadEntry app q (entry_bytes app row.entry ++ rest) rest row.entry) same (row_read row (among_contained table.rows row first.0) rest))

-- ---- the points one after the other

module _ (app : App) where
  abbrev pub point_at : ℕ → Point
  point_at n = get_or (points_in_order app) n point.Halted

  abbrev pub Reads : List (Option PlainEntry) → List ℕ → List ℕ → Option PlainEntry → Type 0
  Reads before bytes rest found = IsReadRow app (point_at (length before)) bytes rest found

  abbrev pub Fails : List (Option PlainEntry) → List ℕ → Fault → Type 0
  Fails before bytes f = IsPointFault app (point_at (length before)) bytes f

  pub one_read : (before : List (Option PlainEntry)) (bytes r s : List ℕ) (a b : Option PlainEntry) → Reads before bytes r a → Reads before bytes s b → (a ≡ b) × (r ≡ s)
  one_read before bytes r s a b h g = one_row app (point_at (length before)) bytes r s a b h g

  pub read_clash : (before : List (Option PlainEntry)) (bytes r : List ℕ) (a : Option PlainEntry) (f : Fault) → Reads before bytes r a → Fails before bytes f → ⊥
  read_clash before bytes r a f h bad = row_clash app (point_at (length before)) bytes r a f h bad

  pub one_fail : (before : List (Option PlainEntry)) (bytes : List ℕ) (f g : Fault) → Fails before bytes f → Fails before bytes g → f ≡ g
  one_fail before bytes f g h d = one_point_fault app (point_at (length before)) bytes f g h d

  seam : (prefix : List Point) (p : Point) (later : List Point) (n : ℕ) → points_in_order app ≡ prefix ++ p ∷ later → n ≡ length prefix → point_at n ≡ p
  seam prefix p later n is size = ap (λ (ps : List Point). get_or ps n point.Halted) is ∙ ap (λ (m : ℕ). get_or (prefix ++ p ∷ later) m point.Halted) size ∙ get_or-append_seam prefix p later point.Halted

  runs_from : (table : PlainTable) → IsSpellable app table → (prefix done later : List Point) (before : List (Option PlainEntry)) (bytes rest : List ℕ) → points_in_order app ≡ prefix ++ (done ++ later) → length before ≡ length prefix
      → bytes ≡ flat_map (point_bytes app table.rows) done ++ rest → Runs Reads before bytes (map (found_in table.rows) done) rest
  runs_from table written prefix [] later before bytes rest is size e = e
  runs_from table written prefix (p ∷ done) later before bytes rest is size e =
      let here = seam prefix p (done ++ later) (length before) is size in
      let mid = flat_map (point_bytes app table.rows) done ++ rest in
      let spelled : bytes ≡ point_bytes app table.rows p ++ mid
      = e ∙ ap (λ (l : List ℕ). l ++ rest) (flat_map-cons (point_bytes app table.rows) p done) ∙ append_assoc (point_bytes app table.rows p) (flat_map (point_bytes app table.rows) done) rest in
      let read = subst (λ (l : List ℕ). IsReadRow app p l mid (found_in table.rows p)) (sym spelled) (point_read app table written p mid) in (
        mid,
        subst (λ (q : Point). IsReadRow app q bytes mid (found_in table.rows p)) (sym here) read,
        runs_from table written (prefix ++ p ∷ []) done later (before ++ found_in table.rows p ∷ []) mid rest (is ∙ sym (append_assoc prefix (p ∷ []) (done ++ later)))
            (omega (arith, length_push before (found_in table.rows p), length_push prefix p, size)) refl,
      )

  -- the rows of a table at the first points
  pub table_runs : (table : PlainTable) → IsSpellable app table → (done later : List Point) (rest : List ℕ) → points_in_order app ≡ done ++ later
      → Runs Reads [] (flat_map (point_bytes app table.rows) done ++ rest) (map (found_in table.rows) done) rest
  table_runs table written done later rest is = runs_from table written [] done later [] (flat_map (point_bytes app table.rows) done ++ rest) rest is refl refl

  -- the next point has a fault
  pub fails_at : (done : List Point) (p : Point) (later : List Point) (found : List (Option PlainEntry)) (bytes : List ℕ) (f : Fault) → points_in_order app ≡ done ++ p ∷ later → length found ≡ length done → IsPointFault app p bytes f → Fails found bytes f
  fails_at done p later found bytes f is size bad = subst (λ (q : Point). IsPointFault app q bytes f) (sym (seam done p later (length found) is size)) bad
