-- Rows that are read point by point: they make a written table, and spell the points so far.
use Rattle.std.proofs.Common.{◌≡◌, ap₂, cond, append_assoc, ℕ, zero, suc, ◌+◌, ◌^◌, ◌<◌, ◌≤◌, List, [], ◌∷◌, ◌++◌, length, filter, take, drop, get_or, refl, sym, ap, subst, ◌∙◌, inl, inr, arith, All}
use Rattle.std.specs.{Prelude.{Contains}, List.{flat_map, AllByRecursion}}
use Rattle.std.proofs.lemmas.List.{length-map, get_or-map, take_more, take_all, take-append-drop, Concat.{flat_map-cons}, Elements.{All-from_recursion, All-contains, All-weaker}}
use Rattle.std.specs.Option.{option_map}
use Rattle.std.proofs.{Math.ListN.{get_or-eq_default}, lemmas.{Bool.{cases_lt, cases_Bool}, Option.{slice_get-get_or, slice_get-map}}}
use Rattle.osek_standard.specs.{declared.{app.App.{App}, point.Point.{Point}}, Points.{point_number, IsPoint}}
use Rattle.osek_standard.proofs.Members.{Among, contained_among, among_contained, among_each, among_left, among_right}
use Rattle.osek_values.specs.Numbers.{alarm_no}
use Rattle.abstract_state.specs.declared.value.{Domain.{Domain}, PartValue.{PartValue}}
use Rattle.abstract_state.specs.declared.value.Component.TheVariants as component
use Rattle.abstract_state.specs.declared.table.{ValueSet.{ValueSet}, PlainEntry.{PlainEntry}, TableRow.{TableRow}, PlainTable.{PlainTable}}
use Rattle.abstract_state.specs.Components.{components, component_at, component_count, IsPart}
use Rattle.abstract_state.specs.{Domains.{domains, domains_of, domain_of, IsWithin, IsSound, IsSoundEntry, HasMasks}, Tables.{empty_set, set_at, is_row_of, sets_of, IsProper}}
use Rattle.abstract_state.specs.Written.{IsRow}
use Rattle.abstract_state.proofs.{DomainValues.{allowed_within}, HeightLaws.{entry_height_is, height_few}, EqualityLaws.{point_itself, written_entry, written_value}}
use Rattle.table_codec.specs.declared.fault.Fault.{Fault}
use Rattle.numbered_sets.specs.PlainTables.{row_at}
use Rattle.osek_standard.specs.Points.{points_in_order}
use Rattle.table_codec.specs.{Spelling.{members_of, entry_bytes, rows_bytes, point_bytes, IsSpellable}, Faults.{IsGoodSet, AreGoodSets, IsPointFault, IsRowFault}, Sets.{IsReadEntry}}
use Rattle.table_codec.specs.Rows.{IsReadTable}
use Rattle.table_codec.proofs.{EntryFaults.{entry_size}, Merging.{row_number, Up, up_push, sorted_from_up, none_before, filter_other, filter_own, other_number}}
use Rattle.table_codec.proofs.{Ascends.{all_push}, PointOrder.{points_up, among_point}, ReadSoFar.{one_more_flat, read_on}}

-- a row of the application, with good sets
pub record IsGoodRow (app : App) (row : TableRow) : Type 0 where
  pub is : IsRow app row
  pub good : AreGoodSets app row.point (members_of row.entry)

module _ (app : App) (table : PlainTable) (each : AllByRecursion (IsGoodRow app) table.rows) where
  good_there : (row : TableRow) → Contains table.rows row → IsGoodRow app row
  good_there row m = among_each (IsGoodRow app) table.rows each row (contained_among table.rows row m)

  set_there : (row : TableRow) → IsGoodRow app row → (c : ℕ) → c < component_count app → IsGoodSet app row.point (component_at app c) (set_at row.entry c).members
  set_there row h c lt =
      let within : c < length row.entry.sets = omega (arith, lt, entry_size app row.point row.entry h.is.domains, length-map row.entry.sets (λ (set : ValueSet). set.members)) in
      h.good c (set_at row.entry c).members (slice_get-map (λ (set : ValueSet). set.members) row.entry.sets c ∙ ap (option_map (λ (set : ValueSet). set.members)) (slice_get-get_or row.entry.sets c empty_set within))

  -- a component with a value is one of the application's
  value_known : (row : TableRow) → IsGoodRow app row → (c : ℕ) (v : PartValue) → Contains (set_at row.entry c).members v → c < component_count app
  value_known row h c v m = elim (cases_lt c (length row.entry.sets)) [
    | inl lt ↦ omega (arith, lt, entry_size app row.point row.entry h.is.domains, length-map row.entry.sets (λ (set : ValueSet). set.members))
    | inr past ↦
        (let none : (set_at row.entry c).members ≡ [] = ap (λ (set : ValueSet). set.members) (get_or-eq_default row.entry.sets empty_set past) in
        absurd (contained_among [] v (subst (λ (vs : List PartValue). Contains vs v) none m)))
  ]

  first_member : (vs : List PartValue) → 0 < length vs → (v : PartValue) × Contains vs v
  first_member [] some = absurd (omega (arith, some))
  first_member (v ∷ vs) some = (v, (0, omega arith, refl))

  pub rows_proper : IsProper app (sets_of table)
  rows_proper = record {
    points = λ p e. let x = (written_entry table p).0 e in subst (IsPoint app) x.point (good_there x.row x.among).is.point;
    entry = λ p c v m. let x = (written_value table p c v).0 m in (written_entry table p).1 (record { row = x.row; among = x.among; point = x.point });
    known = λ p c v m. let x = (written_value table p c v).0 m in value_known x.row (good_there x.row x.among) c v x.member;
    allowed = λ p c v m.
        let x = (written_value table p c v).0 m in
        let good = good_there x.row x.among in
        let set = set_there x.row good c (value_known x.row good c v x.member) in
        subst (λ (q : Point). IsPart app q (component_at app c) v) x.point (All-contains (IsPart app x.row.point (component_at app c)) (set_at x.row.entry c).members v set.values.allowed x.member);
    filled = λ p c e lt.
        let x = (written_entry table p).0 e in
        let set = set_there x.row (good_there x.row x.among) c lt in
        let first = first_member (set_at x.row.entry c).members set.values.some in
        (first.0, (written_value table p c first.0).1 (record { row = x.row; among = x.among; point = x.point; member = first.1 }));
  }

  row_of_good : (rows : List TableRow) → AllByRecursion (IsGoodRow app) rows → AllByRecursion (IsRow app) rows
  row_of_good [] all = tt
  row_of_good (row ∷ rows) all = (all.0.is, row_of_good rows all.1)

  few_values : (row : TableRow) → IsGoodRow app row → All (λ (set : ValueSet). length set.members < 2 ^ 32) row.entry.sets
  few_values row h c d lt =
      (h.good c (get_or row.entry.sets c d).members (slice_get-map (λ (set : ValueSet). set.members) row.entry.sets c ∙ ap (option_map (λ (set : ValueSet). set.members)) (slice_get-get_or row.entry.sets c d lt))).few

  few_of_good : (rows : List TableRow) → AllByRecursion (IsGoodRow app) rows → AllByRecursion (λ (row : TableRow). All (λ (set : ValueSet). length set.members < 2 ^ 32) row.entry.sets) rows
  few_of_good [] all = tt
  few_of_good (row ∷ rows) all = (few_values row all.0, few_of_good rows all.1)

  pub rows_spellable : Up row_number table.rows → IsSpellable app table
  rows_spellable up = record {
    written = record {
      ascending = sorted_from_up row_number table.rows up;
      rows = All-from_recursion (IsRow app) table.rows (row_of_good table.rows each);
      proper = rows_proper;
    };
    few = All-from_recursion (λ (row : TableRow). All (λ (set : ValueSet). length set.members < 2 ^ 32) row.entry.sets) table.rows (few_of_good table.rows each);
  }

-- ---- point by point

-- an entry that was read is sound
module _ (app : App) (masks : HasMasks app) (p : Point) (entry : PlainEntry) (same : domains entry ≡ domains_of app) (good : AreGoodSets app p (members_of entry)) where
  sound_set : (c : ℕ) (d : ValueSet) → c < length entry.sets → IsSound (get_or entry.sets c d)
  sound_set c d lt =
      let set = get_or entry.sets c d in
      let counted : length entry.sets ≡ component_count app = sym (length-map entry.sets (λ (x : ValueSet). x.members)) ∙ entry_size app p entry same in
      let known : c < component_count app = omega (arith, lt, counted) in
      let is : IsGoodSet app p (component_at app c) set.members = good c set.members (slice_get-map (λ (x : ValueSet). x.members) entry.sets c ∙ ap (option_map (λ (x : ValueSet). x.members)) (slice_get-get_or entry.sets c d lt)) in
      let domain : set.domain ≡ domain_of app (component_at app c) =
      sym (get_or-map (λ (x : ValueSet). x.domain) entry.sets c d (domain_of app (component_at app c)) lt)
      ∙ ap (λ (ds : List Domain). get_or ds c (domain_of app (component_at app c))) same
      ∙ get_or-map (domain_of app) (components app) c (component.Alarm (alarm_no 0)) (domain_of app (component_at app c)) known in
      record {
        within = subst (λ (e : Domain). All (IsWithin e) set.members) (sym domain) (All-weaker (IsPart app p (component_at app c)) (IsWithin (domain_of app (component_at app c))) (λ v h. allowed_within app p c v known h) set.members is.values.allowed);
        ascending = is.values.ascending;
      }

  pub sound_entry : IsSoundEntry entry
  sound_entry = record {
    sets = λ c d lt. sound_set c d lt;
    few = (let is = entry_height_is app masks entry same in let less = height_few app masks in omega (arith, is, less));
  }

-- the rows of the points before a place
pub record AreRowsSoFar (app : App) (bytes : List ℕ) (place : ℕ) (rows : List TableRow) (rest : List ℕ) : Type 0 where
  pub each : AllByRecursion (IsGoodRow app) rows
  pub up : Up row_number rows
  pub before : AllByRecursion (λ (row : TableRow). Among row.point (take place (points_in_order app))) rows
  pub are : bytes ≡ flat_map (point_bytes app rows) (take place (points_in_order app)) ++ rest

module _ (app : App) where
  abbrev ps : List Point
  ps = points_in_order app

  -- the points before a place are below the one there
  below_place : (qs : List Point) (n : ℕ) (d : Point) → Up point_number qs → n < length qs → AllByRecursion (λ (q : Point). point_number q < point_number (get_or qs n d)) (take n qs)
  below_place [] n d up lt = absurd (omega (arith, lt))
  below_place (q ∷ qs) zero d up lt = tt
  below_place (q ∷ qs) (suc n) d up lt = (get_each qs n up.0 (omega (arith, lt)), below_place qs n d up.1 (omega (arith, lt)))
    where
      get_each : (rs : List Point) (m : ℕ) → AllByRecursion (λ (r : Point). point_number q < point_number r) rs → m < length rs → point_number q < point_number (get_or rs m d)
      get_each [] m all less = absurd (omega (arith, less))
      get_each (r ∷ rs) zero all less = all.0
      get_each (r ∷ rs) (suc m) all less = get_each rs m all.1 (omega (arith, less))

  rows_below : (qs : List Point) (m : ℕ) (rows : List TableRow) → AllByRecursion (λ (q : Point). point_number q < m) qs → AllByRecursion (λ (row : TableRow). Among row.point qs) rows → AllByRecursion (λ (row : TableRow). row_number row < m) rows
  rows_below qs m [] low at = tt
  rows_below qs m (row ∷ rows) low at = (among_each (λ (q : Point). point_number q < m) qs low row.point at.0, rows_below qs m rows low at.1)

  longer_before : (qs : List Point) (q : Point) (rows : List TableRow) → AllByRecursion (λ (row : TableRow). Among row.point qs) rows → AllByRecursion (λ (row : TableRow). Among row.point (qs ++ q ∷ [])) rows
  longer_before qs q [] at = tt
  longer_before qs q (row ∷ rows) at = (among_left row.point qs (q ∷ []) at.0, longer_before qs q rows at.1)

  -- a row behind the points leaves their bytes
  filter_push : (p : Point) (rows : List TableRow) (row : TableRow) → point_number p < row_number row → filter (is_row_of p) (rows ++ row ∷ []) ≡ filter (is_row_of p) rows
  filter_push p [] row lt = filter_other p row [] (other_number p row.point lt)
  filter_push p (r ∷ rows) row lt = ap (λ (rs : List TableRow). cond (is_row_of p r) (r ∷ rs) rs) (filter_push p rows row lt)

  bytes_same : (qs : List Point) (rows : List TableRow) (row : TableRow) → AllByRecursion (λ (q : Point). point_number q < row_number row) qs → flat_map (point_bytes app (rows ++ row ∷ [])) qs ≡ flat_map (point_bytes app rows) qs
  bytes_same [] rows row low = refl
  bytes_same (q ∷ qs) rows row low =
      flat_map-cons (point_bytes app (rows ++ row ∷ [])) q qs
      ∙ ap₂ (λ (a b : List ℕ). a ++ b) (ap (rows_bytes app) (filter_push q rows row low.0)) (bytes_same qs rows row low.1)
      ∙ sym (flat_map-cons (point_bytes app rows) q qs)

  module _ (bytes : List ℕ) (place : ℕ) (rows : List TableRow) (rest : List ℕ) (p : Point) (lt : place < length (points_in_order app)) (at : (d : Point) → get_or (points_in_order app) place d ≡ p)
      (h : AreRowsSoFar app bytes place rows rest) where
    more : take (place + 1) ps ≡ take place ps ++ p ∷ []
    more = take_more ps place p lt ∙ ap (λ (q : Point). take place ps ++ q ∷ []) (at p)

    low : AllByRecursion (λ (q : Point). point_number q < point_number p) (take place ps)
    low = subst (λ (q : Point). AllByRecursion (λ (r : Point). point_number r < point_number q) (take place ps)) (at p) (below_place ps place p (points_up app) lt)

    none_here : filter (is_row_of p) rows ≡ []
    none_here = none_before p rows (rows_below (take place ps) (point_number p) rows low h.before)

    -- the point has no entry
    pub absent_row : (after : List ℕ) → rest ≡ 0 ∷ after → AreRowsSoFar app bytes (place + 1) rows after
    absent_row after e = record {
      each = h.each;
      up = h.up;
      before = subst (λ (qs : List Point). AllByRecursion (λ (row : TableRow). Among row.point qs) rows) (sym more) (longer_before (take place ps) p rows h.before);
      are =
          read_on bytes (flat_map (point_bytes app rows) (take place ps)) (point_bytes app rows p) rest after h.are (e ∙ ap (λ (rs : List TableRow). rows_bytes app rs ++ after) (sym none_here))
          ∙ ap (λ (l : List ℕ). l ++ after) (sym (ap (flat_map (point_bytes app rows)) more ∙ one_more_flat (point_bytes app rows) (take place ps) p));
    }

    -- it has one
    pub present_row : HasMasks app → (entry : PlainEntry) (mid after : List ℕ) → rest ≡ 1 ∷ mid → IsReadEntry app p mid after entry → AreRowsSoFar app bytes (place + 1) (rows ++ row_at p entry ∷ []) after
    present_row masks entry mid after e read =
        let row = row_at p entry in
        let point : IsPoint app p = among_point app p (contained_among ps p (place, lt, at p)) in
        let good : IsGoodRow app row = record { is = record { point = point; sound = sound_entry app masks p entry read.domains read.good; domains = read.domains }; good = read.good } in
        let here : point_bytes app (rows ++ row ∷ []) p ≡ 1 ∷ entry_bytes app entry
        = ap (rows_bytes app) (filter_last p rows row none_here) in
        record {
          each = all_push (IsGoodRow app) rows row h.each good;
          up = up_push row_number rows row h.up (rows_below (take place ps) (point_number p) rows low h.before);
          before = subst (λ (qs : List Point). AllByRecursion (λ (r : TableRow). Among r.point qs) (rows ++ row ∷ [])) (sym more)
              (all_push (λ (r : TableRow). Among r.point (take place ps ++ p ∷ [])) rows row (longer_before (take place ps) p rows h.before) (among_right p (take place ps) (p ∷ []) (inl refl)));
          are =
              read_on bytes (flat_map (point_bytes app rows) (take place ps)) (1 ∷ entry_bytes app entry) rest after h.are (e ∙ ap (λ (l : List ℕ). 1 ∷ l) read.are)
              ∙ ap (λ (l : List ℕ). l ++ after) (ap₂ (λ (a b : List ℕ). a ++ b) (sym (bytes_same (take place ps) rows row low)) (sym here)
              ∙ sym (ap (flat_map (point_bytes app (rows ++ row ∷ []))) more ∙ one_more_flat (point_bytes app (rows ++ row ∷ [])) (take place ps) p));
        }
      where
        filter_last : (q : Point) (rs : List TableRow) (row : TableRow) → filter (is_row_of row.point) rs ≡ [] → filter (is_row_of row.point) (rs ++ row ∷ []) ≡ row ∷ []
        filter_last q [] row e = filter_own row.point row [] (point_itself row.point)
        filter_last q (r ∷ rs) row e = elim (cases_Bool (is_row_of row.point r)) [
          | inl own ↦ (let kept = filter_own row.point r rs own in absurd (cc))
          | inr other ↦ filter_other row.point r (rs ++ row ∷ []) other ∙ filter_last q rs row (sym (filter_other row.point r rs other) ∙ e)
        ]

    pub bad_row : (f : Fault) → IsPointFault app p rest f → IsRowFault app bytes f
    bad_row f bad = record {
      table = record { rows = rows };
      spellable = rows_spellable app (record { rows = rows }) h.each h.up;
      done = take place ps;
      point = p;
      later = drop (place + 1) ps;
      points = sym (take-append-drop (place + 1) ps) ∙ ap (λ (qs : List Point). qs ++ drop (place + 1) ps) more ∙ append_assoc (take place ps) (p ∷ []) (drop (place + 1) ps);
      before = All-from_recursion (λ (row : TableRow). Contains (take place ps) row.point) rows (contain rows h.before);
      rest = rest;
      are = h.are;
      next = bad;
    }
      where
        contain : (rs : List TableRow) → AllByRecursion (λ (row : TableRow). Among row.point (take place ps)) rs → AllByRecursion (λ (row : TableRow). Contains (take place ps) row.point) rs
        contain [] all = tt
        contain (r ∷ rs) all = (among_contained (take place ps) r.point all.0, contain rs all.1)

  -- the point that a list of all of them has at a place
  module _ (points : List Point) (place : ℕ) (same : points ≡ points_in_order app) where
    pub place_there : place < length points → place < length (points_in_order app)
    place_there lt = omega (arith, lt, ap (λ (qs : List Point). length qs) same)

    pub places_end : length points ≤ place → length (points_in_order app) ≤ place
    places_end le = omega (arith, le, ap (λ (qs : List Point). length qs) same)

    pub point_there : (p : Point) → ((d : Point) → get_or points place d ≡ p) → (d : Point) → get_or (points_in_order app) place d ≡ p
    point_there p at d = ap (λ (qs : List Point). get_or qs place d) (sym same) ∙ at d

  pub all_rows : (bytes : List ℕ) (place : ℕ) (rows : List TableRow) (rest : List ℕ) → length (points_in_order app) ≤ place → AreRowsSoFar app bytes place rows rest → IsReadTable app bytes rest (record { rows = rows })
  all_rows bytes place rows rest whole h = record {
    spellable = rows_spellable app (record { rows = rows }) h.each h.up;
    are = h.are ∙ ap (λ (qs : List Point). flat_map (point_bytes app rows) qs ++ rest) (take_all place ps whole);
  }
