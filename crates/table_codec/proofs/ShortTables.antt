-- A table that is spelled in fewer bytes than a count can say has no more values than that in a set.
use Rattle.std.proofs.Common.{◌≡◌, ℕ, suc, ◌+◌, ◌^◌, ◌<◌, ◌≤◌, Bool, List, [], ◌∷◌, ◌++◌, length, map, get_or, refl, sym, ap, subst, ◌∙◌, inl, inr, arith, append_assoc, length-append, Some, All}
use Rattle.std.specs.{Prelude.{slice_get, sum_by}, List.{flat_map, AllByRecursion}, Int.{to_be_bytes, w32}}
use Rattle.std.proofs.{Math.Seq.{get_or-append_seam}, lemmas.List.{length_push, Concat.{flat_map-cons}, Elements.{All-from_recursion, recursion_from_All}}}
use Rattle.osek_values.specs.Numbers.{alarm_no}
use Rattle.osek_standard.specs.declared.{app.App.{App}, point.Point.{Point}}
use Rattle.osek_standard.specs.Points.{points_in_order}
use Rattle.osek_standard.proofs.Members.{Among, among_contained, among_each}
use Rattle.abstract_state.specs.declared.{value.{Component.{Component}, PartValue.{PartValue, TheVariants.{OfEvent, OfAlarm}}}, table.{ValueSet.{ValueSet}, TableRow.{TableRow}, PlainTable.{PlainTable}}}
use Rattle.abstract_state.specs.declared.value.Component.TheVariants as component
use Rattle.abstract_state.specs.{Components.{components, component_at}, Written.{IsWritten}}
use Rattle.abstract_state.proofs.EqualityLaws.{point_itself}
use Rattle.numbered_sets.proofs.WrittenRows.{row_there}
use Rattle.table_codec.specs.Spelling.{flag_number, value_bytes, listed, set_bytes, sets_bytes, members_of, entry_bytes, rows_bytes, point_bytes, magic, spelling, IsSpellable}
use Rattle.table_codec.specs.{Faults.{AreGoodValues}, Writing.{CanBeWritten}}
use Rattle.table_codec.proofs.{EntryFaults.{more_sets, entry_size}, FlagSets.{IsFlagSet, low, high, both, event_set, alarm_set}, Merging.{row_number, Up, filter_other, filter_own, other_number_too}, PointOrder.{point_among}}
use Rattle.table_codec.proofs.{WriteLaws.{bytes_many, good_writable}, WrittenTables.{row_values, rows_up}}

abbrev HasFew : List PartValue → Type 0
HasFew vs = length vs < 2 ^ 32

-- the bytes of one are among those of all
piece_within : {A : Type 0} (f : A → List ℕ) (xs : List A) (x : A) → Among x xs → length (f x) ≤ length (flat_map f xs)
piece_within f [] x at = absurd at
piece_within f (y ∷ xs) x (inl same) = omega (arith, ap (λ z. length (f z)) same, ap (λ (l : List ℕ). length l) (flat_map-cons f y xs), length-append (f y) (flat_map f xs))
piece_within f (y ∷ xs) x (inr later) = omega (arith, piece_within f xs x later, ap (λ (l : List ℕ). length l) (flat_map-cons f y xs), length-append (f y) (flat_map f xs))

flags_few : (of : Bool → PartValue) (vs : List PartValue) (n : ℕ) → IsFlagSet of vs n → HasFew vs
flags_few of vs n (low e a) = omega (arith, ap (λ (l : List PartValue). length l) e)
flags_few of vs n (high e a) = omega (arith, ap (λ (l : List PartValue). length l) e)
flags_few of vs n (both e a) = omega (arith, ap (λ (l : List PartValue). length l) e)

listed_few : (vs : List PartValue) → All CanBeWritten vs → length (listed vs) < 2 ^ 32 → HasFew vs
listed_few vs all short = (let many = bytes_many vs (recursion_from_All CanBeWritten vs all) in omega (arith, many, short, length-append (to_be_bytes w32 (length vs)) (flat_map value_bytes vs)))

module _ (app : App) (p : Point) where
  set_few : (k : Component) (vs : List PartValue) → AreGoodValues app p k vs → length (set_bytes k vs) < 2 ^ 32 → HasFew vs
  set_few (component.Task t) vs h short = listed_few vs (good_writable app p (component.Task t) vs h) short
  set_few (component.Event t j) vs h short = flags_few OfEvent vs (sum_by flag_number vs) (event_set app p t j vs h)
  set_few (component.Alarm a) vs h short = flags_few OfAlarm vs (sum_by flag_number vs) (alarm_set app p a vs h)
  set_few (component.Source k) vs h short = listed_few vs (good_writable app p (component.Source k) vs h) short

  sets_few : (done ks : List Component) (n : ℕ) (sets : List (List PartValue)) → components app ≡ done ++ ks → n ≡ length done → ((c : ℕ) (vs : List PartValue) → slice_get sets c ≡ Some vs → AreGoodValues app p (component_at app (n + c)) vs)
      → length sets ≤ length ks → length (sets_bytes ks sets) < 2 ^ 32 → AllByRecursion HasFew sets
  sets_few done ks n [] is size good known short = tt
  sets_few done [] n (vs ∷ sets) is size good known short = absurd (omega (arith, known))
  sets_few done (k ∷ ks) n (vs ∷ sets) is size good known short =
      let first : n + 0 ≡ n = omega arith in
      let here : component_at app n ≡ k
      = ap (λ (cs : List Component). get_or cs n (component.Alarm (alarm_no 0))) is ∙ ap (λ (m : ℕ). get_or (done ++ k ∷ ks) m (component.Alarm (alarm_no 0))) size ∙ get_or-append_seam done k ks (component.Alarm (alarm_no 0)) in
      let values : AreGoodValues app p k vs = subst (λ (c : Component). AreGoodValues app p c vs) here (subst (λ (m : ℕ). AreGoodValues app p (component_at app m) vs) first (good 0 vs refl)) in
      let parts : length (sets_bytes (k ∷ ks) (vs ∷ sets)) ≡ length (set_bytes k vs) + length (sets_bytes ks sets)
      = ap (λ (l : List ℕ). length l) (more_sets k ks vs sets) ∙ length-append (set_bytes k vs) (sets_bytes ks sets) in (
        set_few k vs values (omega (arith, parts, short)),
        sets_few (done ++ k ∷ []) ks (suc n) sets (is ∙ sym (append_assoc done (k ∷ []) ks)) (omega (arith, size, length_push done k))
            (λ c ws h. let e : n + suc c ≡ suc n + c = omega arith in subst (λ (m : ℕ). AreGoodValues app p (component_at app m) ws) e (good (suc c) ws h))
            (omega (arith, known)) (omega (arith, parts, short)),
      )

members_few : (sets : List ValueSet) → AllByRecursion HasFew (map (λ (set : ValueSet). set.members) sets) → AllByRecursion (λ (set : ValueSet). HasFew set.members) sets
members_few [] all = tt
members_few (set ∷ sets) all = (all.0, members_few sets all.1)

-- the bytes of a row's point are the row's
own_bytes : (app : App) (rows : List TableRow) (row : TableRow) → Up row_number rows → Among row rows → point_bytes app rows row.point ≡ 1 ∷ entry_bytes app row.entry
own_bytes app [] row up at = absurd at
own_bytes app (r ∷ rows) row up (inl same) =
    subst (λ (x : TableRow). point_bytes app (r ∷ rows) x.point ≡ 1 ∷ entry_bytes app x.entry) (sym same) (ap (rows_bytes app) (filter_own r.point r rows (point_itself r.point)))
own_bytes app (r ∷ rows) row up (inr later) =
    let below = among_each (λ (x : TableRow). row_number r < row_number x) rows up.0 row later in
    ap (rows_bytes app) (filter_other row.point r rows (other_number_too row.point r.point below)) ∙ own_bytes app rows row up.1 later

module _ (app : App) (table : PlainTable) (written : IsWritten app table) where
  abbrev RowHasFew : TableRow → Type 0
  RowHasFew row = All (λ (set : ValueSet). length set.members < 2 ^ 32) row.entry.sets

  row_few : (row : TableRow) → Among row table.rows → length (flat_map (point_bytes app table.rows) (points_in_order app)) < 2 ^ 32 → RowHasFew row
  row_few row at short =
      let listed = among_contained table.rows row at in
      let is = row_there app table written row listed in
      let piece = piece_within (point_bytes app table.rows) (points_in_order app) row.point (point_among app row.point is.point) in
      let bytes = ap (λ (l : List ℕ). length l) (own_bytes app table.rows row (rows_up app table written) at) in
      let size = entry_size app row.point row.entry is.domains in
      let few = sets_few app row.point [] (components app) 0 (members_of row.entry) refl refl
      (λ c vs h. let e : c ≡ 0 + c = omega arith in subst (λ (m : ℕ). AreGoodValues app row.point (component_at app m) vs) e (row_values app table written row listed c vs h)) (omega (arith, size)) (omega (arith, piece, bytes, short)) in
      All-from_recursion (λ (set : ValueSet). length set.members < 2 ^ 32) row.entry.sets (members_few row.entry.sets few)

  rows_few : (rows : List TableRow) → ((row : TableRow) → Among row rows → Among row table.rows) → length (flat_map (point_bytes app table.rows) (points_in_order app)) < 2 ^ 32 → AllByRecursion RowHasFew rows
  rows_few [] at short = tt
  rows_few (row ∷ rows) at short = (row_few row (at row (inl refl)) short, rows_few rows (λ x m. at x (inr m)) short)

  pub short_is_spellable : length (spelling app table) < 2 ^ 32 → IsSpellable app table
  unfolding spelling
  short_is_spellable short = record {
    written = written;
    few = All-from_recursion RowHasFew table.rows (rows_few table.rows (λ row m. m) (omega (arith, short, length-append magic (flat_map (point_bytes app table.rows) (points_in_order app)))));
  }
