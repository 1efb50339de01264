-- Writing sets, entries and rows one after the other, and that what is written so is the table's spelling.
use Rattle.std.proofs.Common.{◌≡◌, ℕ, zero, suc, ◌+◌, ◌^◌, ◌<◌, ◌≤◌, Bool, true, false, cond, List, [], ◌∷◌, ◌++◌, length, map, filter, take, drop, get_or, refl, sym, ap, ap₂, subst, ◌∙◌, arith, append_assoc, length-append, Some}
use Rattle.std.specs.Prelude.{◌==◌, if◌then◌else◌, sum_by, slice_get}
use Rattle.std.proofs.{Math.Seq.{get_or-append_seam}, lemmas.List.Elements.{All-weaker}}
use Rattle.osek_values.specs.{Numbers.{alarm_no}, declared.numbers.{TaskNo.{TaskNo}, SourceNo.{SourceNo}, ResNo.{ResNo}}}
use Rattle.std.specs.List.{flat_map, AllByRecursion}
use Rattle.std.proofs.lemmas.{Bool.{eq-eqb, ne_eqb}, List.{length_push, Concat.{flat_map-cons}}}
use Rattle.osek_standard.specs.{declared.{app.App.{App}, point.Point.{Point}}, Points.{point_number}, Well.{IsStack}}
use Rattle.osek_standard.proofs.StackLaws.{stack_few}
use Rattle.abstract_state.specs.declared.value.{Component.{Component}, PartValue.{PartValue, TheVariants.{OfTask, OfEvent, OfAlarm, OfSource}}, Val.TheVariants.{Suspended, Live, Waiting}}
use Rattle.abstract_state.specs.declared.value.SourceVal.TheVariants as source_val
use Rattle.abstract_state.specs.declared.value.Component.TheVariants as component
use Rattle.abstract_state.specs.{declared.table.{ValueSet.{ValueSet}, TableRow.{TableRow}}, Components.{components, component_at, IsPart}, Tables.{same_point}}
use Rattle.abstract_state.proofs.EqualityLaws.{point_itself}
use Rattle.numbered_sets.specs.{Numbers.{Numbers, has_number}, Pools.{Values, values_at}, SetLists.{set_of}, Views.{plain_set, plain_sets, plain_entry}}
use Rattle.numbered_sets.specs.{declared.table.NumberedRow.{NumberedRow}, PlainTables.{plain_row, plain_rows}}
use Rattle.table_codec.specs.{declared.ascending.NumberedValue.{NumberedValue}, Ascending.{values_in, AreInOrder}}
use Rattle.table_codec.specs.Spelling.{value_bytes, flag_number, set_bytes, sets_bytes, members_of, entry_bytes, rows_bytes, point_bytes}
use Rattle.table_codec.specs.{Writing.{CanBeWritten, IsWritable, AreWritable, AreOrdered, all_in, merged_bytes}, Faults.{AreGoodValues}}
use Rattle.table_codec.proofs.{EntryFaults.{more_sets}, FlagSets.{event_set, alarm_set, flag_range}}
use Rattle.table_codec.proofs.Merging.{row_number, AreAt, Up, IsFirst, own, behind, first_of, filter_own, filter_other, none_behind, other_number_too}

-- ---- the values of a set

pub values_more : (x : Numbers) (all : List NumberedValue) (i : ℕ) (v : NumberedValue) → i < length all → get_or all i v ≡ v → values_in x (take (i + 1) all) ≡ values_in x (take i all) ++ (if has_number x v.number then v.value ∷ [] else [])
values_more x [] i v lt at = absurd (omega (arith, lt))
values_more x (w ∷ all) zero v lt at = ap (λ (u : NumberedValue). map (λ (y : NumberedValue). y.value) (cond (has_number x u.number) (u ∷ []) [])) at ∙ by_test (has_number x v.number)
  where
    by_test : (b : Bool) → map (λ (y : NumberedValue). y.value) (cond b (v ∷ []) []) ≡ [] ++ (if b then v.value ∷ [] else [])
    by_test true = refl
    by_test false = refl
values_more x (w ∷ all) (suc i) v lt at =
    let next : suc i + 1 ≡ suc (i + 1) = omega arith in
    ap (λ (n : ℕ). values_in x (take n (w ∷ all))) next ∙ by_test (has_number x w.number) (values_more x all i v (omega (arith, lt)) at)
  where
    by_test : (b : Bool) → values_in x (take (i + 1) all) ≡ values_in x (take i all) ++ (if has_number x v.number then v.value ∷ [] else [])
        → map (λ (y : NumberedValue). y.value) (cond b (w ∷ filter (λ (y : NumberedValue). has_number x y.number) (take (i + 1) all)) (filter (λ (y : NumberedValue). has_number x y.number) (take (i + 1) all)))
        ≡ map (λ (y : NumberedValue). y.value) (cond b (w ∷ filter (λ (y : NumberedValue). has_number x y.number) (take i all)) (filter (λ (y : NumberedValue). has_number x y.number) (take i all))) ++ (if has_number x v.number then v.value ∷ [] else [])
    by_test true rest = ap (λ (l : List PartValue). w.value ∷ l) rest
    by_test false rest = rest

-- values with bytes have at least one each
pub bytes_many : (vs : List PartValue) → AllByRecursion CanBeWritten vs → length vs ≤ length (flat_map value_bytes vs)
bytes_many [] all = omega arith
bytes_many (v ∷ vs) all =
    (let rest = bytes_many vs all.1 in
    omega (arith, rest, all.0.some, ap (λ (l : List ℕ). length l) (flat_map-cons value_bytes v vs), length-append (value_bytes v) (flat_map value_bytes vs)))

-- ---- the sets of an entry

pub set_next : (xs : List Numbers) (values : List (List NumberedValue)) (ks : List Component) (place : ℕ) (k : Component) (v : List NumberedValue) → place < length ks → place < length xs → place < length values → get_or ks place k ≡ k → get_or values place v ≡ v
    → sets_bytes (drop place ks) (drop place (all_in xs values)) ≡ set_bytes k (values_in (set_of xs place) v) ++ sets_bytes (drop (suc place) ks) (drop (suc place) (all_in xs values))
set_next xs values [] place k v a b c at is = absurd (omega (arith, a))
set_next [] values (y ∷ ks) place k v a b c at is = absurd (omega (arith, b))
set_next (x ∷ xs) [] (y ∷ ks) place k v a b c at is = absurd (omega (arith, c))
set_next (x ∷ xs) (w ∷ values) (y ∷ ks) zero k v a b c at is =
    more_sets y ks (values_in x w) (all_in xs values)
    ∙ ap₂ (λ (j : Component) (u : List NumberedValue). set_bytes j (values_in x u) ++ sets_bytes ks (all_in xs values)) at is
set_next (x ∷ xs) (w ∷ values) (y ∷ ks) (suc place) k v a b c at is = set_next xs values ks place k v (omega (arith, a)) (omega (arith, b)) (omega (arith, c)) at is

pub writable_at : (xs : List Numbers) (values : List (List NumberedValue)) (ks : List Component) (place : ℕ) (k : Component) (v : List NumberedValue) → place < length ks → place < length xs → place < length values → get_or ks place k ≡ k → get_or values place v ≡ v
    → AreWritable ks (all_in xs values) → IsWritable k (values_in (set_of xs place) v)
writable_at xs values [] place k v a b c at is h = absurd (omega (arith, a))
writable_at [] values (y ∷ ks) place k v a b c at is h = absurd (omega (arith, b))
writable_at (x ∷ xs) [] (y ∷ ks) place k v a b c at is h = absurd (omega (arith, c))
writable_at (x ∷ xs) (w ∷ values) (y ∷ ks) zero k v a b c at is h = subst (λ (u : List NumberedValue). IsWritable k (values_in x u)) is (subst (λ (j : Component). IsWritable j (values_in x w)) at h.0)
writable_at (x ∷ xs) (w ∷ values) (y ∷ ks) (suc place) k v a b c at is h = writable_at xs values ks place k v (omega (arith, a)) (omega (arith, b)) (omega (arith, c)) at is h.1

-- ---- good sets can be written

stack_written : (app : App) (h : List ResNo) → IsStack app h → length h < 2 ^ 8
stack_written app h stack = (let few = app.valid.few_resources in omega (arith, few, stack_few (length app.resources) h stack.out_of))

value_written : (app : App) (p : Point) (t : TaskNo) (v : PartValue) → IsPart app p (component.Task t) v → CanBeWritten v
value_written app p t (OfTask Suspended) h = record { some = omega arith; few = omega arith }
value_written app p t (OfTask (Live x)) h = record { some = omega arith; few = stack_written app x.held h.0.stack }
value_written app p t (OfTask (Waiting b)) h = record { some = omega arith; few = omega arith }
value_written app p t (OfEvent b) h = absurd h
value_written app p t (OfAlarm b) h = absurd h
value_written app p t (OfSource v) h = absurd h

source_written : (app : App) (p : Point) (k : SourceNo) (v : PartValue) → IsPart app p (component.Source k) v → CanBeWritten v
source_written app p k (OfTask v) h = absurd h
source_written app p k (OfEvent b) h = absurd h
source_written app p k (OfAlarm b) h = absurd h
source_written app p k (OfSource source_val.Out) h = record { some = omega arith; few = omega arith }
source_written app p k (OfSource (source_val.In x)) h = record { some = omega arith; few = stack_written app x.held h.0.stack }

module _ (app : App) (p : Point) where
  pub good_writable : (k : Component) (vs : List PartValue) → AreGoodValues app p k vs → IsWritable k vs
  good_writable (component.Task t) vs h = All-weaker (IsPart app p (component.Task t)) CanBeWritten (value_written app p t) vs h.allowed
  good_writable (component.Event t j) vs h = (flag_range OfEvent vs (sum_by flag_number vs) (event_set app p t j vs h)).1
  good_writable (component.Alarm a) vs h = (flag_range OfAlarm vs (sum_by flag_number vs) (alarm_set app p a vs h)).1
  good_writable (component.Source k) vs h = All-weaker (IsPart app p (component.Source k)) CanBeWritten (source_written app p k) vs h.allowed

  writable_from : (done ks : List Component) (n : ℕ) (sets : List (List PartValue)) → components app ≡ done ++ ks → n ≡ length done → ((c : ℕ) (vs : List PartValue) → slice_get sets c ≡ Some vs → AreGoodValues app p (component_at app (n + c)) vs) → AreWritable ks sets
  writable_from done [] n sets is size good = tt
  writable_from done (k ∷ ks) n [] is size good = tt
  writable_from done (k ∷ ks) n (vs ∷ sets) is size good =
      let first : n + 0 ≡ n = omega arith in
      let here : component_at app n ≡ k
      = ap (λ (cs : List Component). get_or cs n (component.Alarm (alarm_no 0))) is ∙ ap (λ (m : ℕ). get_or (done ++ k ∷ ks) m (component.Alarm (alarm_no 0))) size ∙ get_or-append_seam done k ks (component.Alarm (alarm_no 0)) in (
        good_writable k vs (subst (λ (c : Component). AreGoodValues app p c vs) here (subst (λ (m : ℕ). AreGoodValues app p (component_at app m) vs) first (good 0 vs refl))),
        writable_from (done ++ k ∷ []) ks (suc n) sets (is ∙ sym (append_assoc done (k ∷ []) ks)) (omega (arith, size, length_push done k))
            (λ c ws h. let e : n + suc c ≡ suc n + c = omega arith in subst (λ (m : ℕ). AreGoodValues app p (component_at app m) ws) e (good (suc c) ws h)),
      )

  pub sets_writable : (sets : List (List PartValue)) → ((c : ℕ) (vs : List PartValue) → slice_get sets c ≡ Some vs → AreGoodValues app p (component_at app c) vs) → AreWritable (components app) sets
  sets_writable sets good = writable_from [] (components app) 0 sets refl refl (λ c vs h. let e : c ≡ 0 + c = omega arith in subst (λ (n : ℕ). AreGoodValues app p (component_at app n) vs) e (good c vs h))

-- what is put next, and where that is too much, all of it is
pub put_on : (out piece more whole after : List ℕ) → out ++ (piece ++ more) ≡ whole → after ≡ out ++ piece → after ++ more ≡ whole
put_on out piece more whole after e is = ap (λ (l : List ℕ). l ++ more) is ∙ append_assoc out piece more ∙ e

pub too_many : (limit : ℕ) (out piece more whole prefix : List ℕ) → out ++ (piece ++ more) ≡ prefix ++ whole → limit < length out + length piece → limit < length prefix + length whole
too_many limit out piece more whole prefix e lt =
    omega (arith, lt, ap (λ (l : List ℕ). length l) e, length-append out (piece ++ more), length-append piece more, length-append prefix whole)

-- ---- the rows

module _ (app : App) (pool : List Values) (values : List (List NumberedValue)) (ordered : AreOrdered pool (length (components app)) values) where
  -- the values of each component are those of the plain sets
  sets_from : (c : ℕ) (xs : List Numbers) (vs : List (List NumberedValue)) → length vs ≡ length xs → ((i : ℕ) (none : List NumberedValue) → i < length vs → AreInOrder (values_at pool (c + i)) (get_or vs i none)) → all_in xs vs ≡ map (λ (set : ValueSet). set.members) (plain_sets pool c xs)
  sets_from c [] vs size each = refl
  sets_from c (x ∷ xs) [] size each = absurd (omega (arith, size))
  sets_from c (x ∷ xs) (v ∷ vs) size each =
      let first : c + 0 ≡ c = omega arith in
      let here : (plain_set (values_at pool c) x).members ≡ values_in x v = subst (λ (n : ℕ). (plain_set (values_at pool n) x).members ≡ values_in x v) first (each 0 v (omega arith) x) in
      ap₂ (λ (a : List PartValue) (b : List (List PartValue)). a ∷ b) (sym here)
      (sets_from (suc c) xs vs (omega (arith, size)) (λ i none lt. let e : c + suc i ≡ suc c + i = omega arith in subst (λ (n : ℕ). AreInOrder (values_at pool n) (get_or vs i none)) e (each (suc i) none (omega (arith, lt)))))

  pub sets_are : (row : NumberedRow) → length row.entry.sets ≡ length (components app) → all_in row.entry.sets values ≡ members_of (plain_entry pool row.entry)
  sets_are row size =
      sets_from 0 row.entry.sets values (omega (arith, ordered.size, size)) (λ i none lt. let e : i ≡ 0 + i = omega arith in subst (λ (n : ℕ). AreInOrder (values_at pool n) (get_or values i none)) e (ordered.each i none (omega (arith, lt, ordered.size))))

  bytes_other : (row : TableRow) (rows : List TableRow) (ps : List Point) → AllByRecursion (λ (q : Point). row_number row < point_number q) ps → flat_map (point_bytes app (row ∷ rows)) ps ≡ flat_map (point_bytes app rows) ps
  bytes_other row rows [] all = refl
  bytes_other row rows (q ∷ ps) all =
      flat_map-cons (point_bytes app (row ∷ rows)) q ps
      ∙ ap₂ (λ (a b : List ℕ). a ++ b) (ap (rows_bytes app) (filter_other q row rows (other_number_too q row.point all.0))) (bytes_other row rows ps all.1)
      ∙ sym (flat_map-cons (point_bytes app rows) q ps)

  -- Merged with the points, the rows are spelled.
  pub merged_spelled : (ps : List Point) (rows : List NumberedRow) → AllByRecursion (λ (row : NumberedRow). length row.entry.sets ≡ length (components app)) rows → Up point_number ps → Up row_number (plain_rows pool rows) → AreAt ps (plain_rows pool rows)
      → merged_bytes (components app) values ps rows ≡ flat_map (point_bytes app (plain_rows pool rows)) ps
  merged_spelled [] rows sizes up rise at = refl
  merged_spelled (p ∷ ps) [] sizes up rise at = ap (λ (l : List ℕ). 0 ∷ l) (merged_spelled ps [] tt up.1 tt (none_at ps)) ∙ sym (flat_map-cons (point_bytes app []) p ps)
    where
      none_at : (qs : List Point) → AreAt qs []
      none_at qs = tt
  merged_spelled (p ∷ ps) (row ∷ rows) sizes up rise at = by_first (first_of p ps (plain_rows pool (row ∷ rows)) up rise at) (merged_spelled ps rows sizes.1 up.1 rise.1) (merged_spelled ps (row ∷ rows) sizes up.1 rise)
    where
      head : TableRow
      head = plain_row pool row

      Spelled : List NumberedRow → Type 0
      Spelled rs = AreAt ps (plain_rows pool rs) → merged_bytes (components app) values ps rs ≡ flat_map (point_bytes app (plain_rows pool rs)) ps

      by_first : IsFirst p ps (plain_rows pool (row ∷ rows)) → Spelled rows → Spelled (row ∷ rows) → merged_bytes (components app) values (p ∷ ps) (row ∷ rows) ≡ flat_map (point_bytes app (plain_rows pool (row ∷ rows))) (p ∷ ps)
      by_first (own r rest is same later near rising) fewer again =
          let first : head ≡ r = cc (is) in
          let others : plain_rows pool rows ≡ rest = cc (is) in
          let point : p ≡ row.point = same ∙ ap (λ (x : TableRow). x.point) (sym first) in
          let test : (point_number row.point == point_number p) ≡ true = eq-eqb (point_number row.point) (point_number p) (ap point_number (sym point)) in
          let low : AllByRecursion (λ (q : Point). row_number head < point_number q) ps = subst (λ (x : Point). AllByRecursion (λ (q : Point). point_number x < point_number q) ps) point up.0 in
          let here : point_bytes app (head ∷ plain_rows pool rows) p ≡ 1 ∷ entry_bytes app head.entry = ap (rows_bytes app) (filter_own p head (plain_rows pool rows) (ap (same_point p) (sym point) ∙ point_itself p)) in
          ap (λ (b : Bool). if b then 1 ∷ (sets_bytes (components app) (all_in row.entry.sets values) ++ merged_bytes (components app) values ps rows) else 0 ∷ merged_bytes (components app) values ps (row ∷ rows)) test
          ∙ ap₂ (λ (sets : List (List PartValue)) (more : List ℕ). 1 ∷ (sets_bytes (components app) sets ++ more)) (sets_are row sizes.0)
          (fewer (subst (AreAt ps) (sym others) near) ∙ sym (bytes_other head (plain_rows pool rows) ps low))
          ∙ ap (λ (l : List ℕ). l ++ flat_map (point_bytes app (head ∷ plain_rows pool rows)) ps) (sym here)
          ∙ sym (flat_map-cons (point_bytes app (head ∷ plain_rows pool rows)) p ps)
      by_first (behind later near) fewer again =
          let test : (point_number row.point == point_number p) ≡ false = ne_eqb (point_number row.point) (point_number p) (λ e. omega (arith, e, later.0)) in
          let here : point_bytes app (head ∷ plain_rows pool rows) p ≡ 0 ∷ [] = ap (rows_bytes app) (none_behind p (head ∷ plain_rows pool rows) later) in
          ap (λ (b : Bool). if b then 1 ∷ (sets_bytes (components app) (all_in row.entry.sets values) ++ merged_bytes (components app) values ps rows) else 0 ∷ merged_bytes (components app) values ps (row ∷ rows)) test
          ∙ ap (λ (l : List ℕ). 0 ∷ l) (again near)
          ∙ ap (λ (l : List ℕ). l ++ flat_map (point_bytes app (head ∷ plain_rows pool rows)) ps) (sym here)
          ∙ sym (flat_map-cons (point_bytes app (head ∷ plain_rows pool rows)) p ps)
