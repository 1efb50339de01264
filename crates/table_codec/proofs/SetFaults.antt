-- The set of a component: it is read in one way, or has one fault.
use Rattle.std.proofs.Common.{◌≡◌, ℕ, ◌^◌, ◌<◌, ◌≤◌, List, [], ◌∷◌, ◌++◌, length, flat_map, refl, sym, ap, subst, ◌∙◌, arith, append_assoc}
use Rattle.std.specs.{Int.{to_be_bytes, w32, from_be_bytes}, List.{AllByRecursion}}
use Rattle.std.proofs.lemmas.{List.{Concat.{flat_map-cons}, Elements.{recursion_from_All}}, Nat.{from_be_bytes-to_be_bytes_4}}
use Rattle.osek_standard.specs.{declared.{app.App.{App}, point.Point.{Point}}}
use Rattle.abstract_state.specs.declared.value.{Component.{Component}, PartValue.{PartValue, TheVariants.{OfEvent, OfAlarm}}}
use Rattle.abstract_state.specs.declared.value.Component.TheVariants as component
use Rattle.abstract_state.specs.{ValueOrder.{part_order, IsAscending}, Components.{IsPart, IsComponent}}
use Rattle.table_codec.specs.{declared.fault.Fault.{Fault}, Spelling.{value_bytes, listed, set_bytes}}
use Rattle.table_codec.specs.{Faults.{IsNextFault, IsListFault, IsListedFault, bad_count, count_cut, count_none, bad_list, IsSetFault, IsGoodSet}, Sets.{IsNextValue}}
use Rattle.table_codec.proofs.{Ascends.{sorted_prefix}, FlagSets.{event_set, alarm_set, one_flags, flags_clash, one_flags_fault}, Sequences.{Runs, one_run, no_fault, one_fault}}
use Rattle.table_codec.proofs.ValueFaults.{IsListed, one_next, next_clash, one_next_fault}

pub four_heads : (n m : ℕ) (x y : List ℕ) → n < 2 ^ 32 → m < 2 ^ 32 → to_be_bytes w32 n ++ x ≡ to_be_bytes w32 m ++ y → (n ≡ m) × (x ≡ y)
four_heads n m x y ln lm e =
    let firsts : to_be_bytes w32 n ≡ to_be_bytes w32 m = cc in
    let rests : x ≡ y = cc in
    (sym (from_be_bytes-to_be_bytes_4 n ln) ∙ ap (from_be_bytes w32) firsts ∙ from_be_bytes-to_be_bytes_4 m lm, rests)

four_bytes : (n : ℕ) (x : List ℕ) → 4 ≤ length (to_be_bytes w32 n ++ x)
four_bytes n x = omega arith

module _ (app : App) (p : Point) (k : Component) (known : IsListed app k) where
  abbrev Reads : List PartValue → List ℕ → List ℕ → PartValue → Type 0
  Reads = IsNextValue app p k

  abbrev Fails : List PartValue → List ℕ → Fault → Type 0
  Fails = IsNextFault app p k

  -- values in ascending order are read one after the other
  runs_of_values : (before vs : List PartValue) (bytes rest : List ℕ) → IsAscending (before ++ vs) → AllByRecursion (IsPart app p k) vs → bytes ≡ flat_map value_bytes vs ++ rest → Runs Reads before bytes vs rest
  runs_of_values before [] bytes rest up all e = e
  runs_of_values before (v ∷ vs) bytes rest up all e =
      let again : IsAscending ((before ++ v ∷ []) ++ vs) = subst IsAscending (sym (append_assoc before (v ∷ []) vs)) up in (
        flat_map value_bytes vs ++ rest,
        record { allowed = all.0; above = sorted_prefix part_order (before ++ v ∷ []) vs again; are = e ∙ ap (λ (l : List ℕ). l ++ rest) (flat_map-cons value_bytes v vs) ∙ append_assoc (value_bytes v) (flat_map value_bytes vs) rest },
        runs_of_values (before ++ v ∷ []) vs (flat_map value_bytes vs ++ rest) rest again all.1 refl,
      )

  good_runs : (vs : List PartValue) (bytes rest : List ℕ) → IsGoodSet app p k vs → bytes ≡ flat_map value_bytes vs ++ rest → Runs Reads [] bytes vs rest
  good_runs vs bytes rest h e = runs_of_values [] vs bytes rest h.values.ascending (recursion_from_All (IsPart app p k) vs h.values.allowed) e

  listed_is : (vs : List PartValue) (rest : List ℕ) → listed vs ++ rest ≡ to_be_bytes w32 (length vs) ++ (flat_map value_bytes vs ++ rest)
  listed_is vs rest = append_assoc (to_be_bytes w32 (length vs)) (flat_map value_bytes vs) rest

  pub one_listed : (vs ws : List PartValue) (r s : List ℕ) → IsGoodSet app p k vs → IsGoodSet app p k ws → listed vs ++ r ≡ listed ws ++ s → (vs ≡ ws) × (r ≡ s)
  one_listed vs ws r s h g e =
      let heads = four_heads (length vs) (length ws) (flat_map value_bytes vs ++ r) (flat_map value_bytes ws ++ s) h.few g.few (sym (listed_is vs r) ∙ e ∙ listed_is ws s) in
      one_run Reads (one_next app p k known) [] (flat_map value_bytes vs ++ r) r s vs ws (good_runs vs (flat_map value_bytes vs ++ r) r h refl) (good_runs ws (flat_map value_bytes vs ++ r) s g heads.1) heads.0

  list_runs : (bytes : List ℕ) (f : Fault) (h : IsListFault app p k bytes f) → Runs Reads [] (flat_map value_bytes h.values ++ h.rest) h.values h.rest
  list_runs bytes f h = runs_of_values [] h.values (flat_map value_bytes h.values ++ h.rest) h.rest h.ascending (recursion_from_All (IsPart app p k) h.values h.allowed) refl

  pub listed_clash : (vs : List PartValue) (rest bytes : List ℕ) (f : Fault) → IsGoodSet app p k vs → bytes ≡ listed vs ++ rest → IsListedFault app p k bytes f → ⊥
  listed_clash vs rest bytes f h e (bad_count (count_cut less d)) = omega (arith, less, ap length (e ∙ listed_is vs rest), four_bytes (length vs) (flat_map value_bytes vs ++ rest))
  listed_clash vs rest bytes f h e (bad_count (count_none more is d)) =
      let heads = four_heads (length vs) 0 (flat_map value_bytes vs ++ rest) more h.few (omega arith) (sym (listed_is vs rest) ∙ sym e ∙ is) in
      omega (arith, h.values.some, heads.0)
  listed_clash vs rest bytes f h e (bad_list bad) =
      let heads = four_heads bad.count (length vs) (flat_map value_bytes bad.values ++ bad.rest) (flat_map value_bytes vs ++ rest) bad.fits h.few (sym bad.are ∙ e ∙ listed_is vs rest) in
      no_fault Reads (one_next app p k known) Fails (next_clash app p k known) [] (flat_map value_bytes bad.values ++ bad.rest) bad.rest rest bad.values vs f
      (list_runs bytes f bad) bad.next (good_runs vs (flat_map value_bytes bad.values ++ bad.rest) rest h heads.1) (omega (arith, bad.few, heads.0))

  pub one_listed_fault : (bytes : List ℕ) (f g : Fault) → IsListedFault app p k bytes f → IsListedFault app p k bytes g → f ≡ g
  one_listed_fault bytes f g (bad_count (count_cut less e)) (bad_count (count_cut fewer d)) = e ∙ sym d
  one_listed_fault bytes f g (bad_count (count_cut less e)) (bad_count (count_none more is d)) = absurd (omega (arith, less, ap length is, four_bytes 0 more))
  one_listed_fault bytes f g (bad_count (count_cut less e)) (bad_list bad) = absurd (omega (arith, less, ap length bad.are, four_bytes bad.count (flat_map value_bytes bad.values ++ bad.rest)))
  one_listed_fault bytes f g (bad_count (count_none more is e)) (bad_count (count_cut less d)) = absurd (omega (arith, less, ap length is, four_bytes 0 more))
  one_listed_fault bytes f g (bad_count (count_none more is e)) (bad_count (count_none rest are d)) = e ∙ sym d
  one_listed_fault bytes f g (bad_count (count_none more is e)) (bad_list bad) =
      let heads = four_heads 0 bad.count more (flat_map value_bytes bad.values ++ bad.rest) (omega arith) bad.fits (sym is ∙ bad.are) in
      absurd (omega (arith, bad.few, heads.0))
  one_listed_fault bytes f g (bad_list bad) (bad_count (count_cut less d)) = absurd (omega (arith, less, ap length bad.are, four_bytes bad.count (flat_map value_bytes bad.values ++ bad.rest)))
  one_listed_fault bytes f g (bad_list bad) (bad_count (count_none more is d)) =
      let heads = four_heads 0 bad.count more (flat_map value_bytes bad.values ++ bad.rest) (omega arith) bad.fits (sym is ∙ bad.are) in
      absurd (omega (arith, bad.few, heads.0))
  one_listed_fault bytes f g (bad_list bad) (bad_list worse) =
      let heads = four_heads bad.count worse.count (flat_map value_bytes bad.values ++ bad.rest) (flat_map value_bytes worse.values ++ worse.rest) bad.fits worse.fits (sym bad.are ∙ worse.are) in
      one_fault Reads (one_next app p k known) Fails (next_clash app p k known) (one_next_fault app p k known) [] (flat_map value_bytes bad.values ++ bad.rest) bad.rest worse.rest bad.values worse.values f g
      (list_runs bytes f bad) bad.next
      (subst (λ (b : List ℕ). Runs Reads [] b worse.values worse.rest) (sym heads.1) (list_runs bytes g worse)) worse.next

-- ---- of any component

module _ (app : App) (p : Point) where
  pub one_set : (k : Component) → IsComponent app k → (vs ws : List PartValue) (r s : List ℕ) → IsGoodSet app p k vs → IsGoodSet app p k ws → set_bytes k vs ++ r ≡ set_bytes k ws ++ s → (vs ≡ ws) × (r ≡ s)
  one_set (component.Task t) is vs ws r s h g e = one_listed app p (component.Task t) is vs ws r s h g e
  one_set (component.Event t j) is vs ws r s h g e = one_flags OfEvent vs ws r s (event_set app p t j vs h.values) (event_set app p t j ws g.values) e
  one_set (component.Alarm a) is vs ws r s h g e = one_flags OfAlarm vs ws r s (alarm_set app p a vs h.values) (alarm_set app p a ws g.values) e
  one_set (component.Source j) is vs ws r s h g e = one_listed app p (component.Source j) is vs ws r s h g e

  pub set_clash : (k : Component) → IsComponent app k → (vs : List PartValue) (rest bytes : List ℕ) (f : Fault) → IsGoodSet app p k vs → bytes ≡ set_bytes k vs ++ rest → IsSetFault app p k bytes f → ⊥
  set_clash (component.Task t) is vs rest bytes f h e bad = listed_clash app p (component.Task t) is vs rest bytes f h e bad
  set_clash (component.Event t j) is vs rest bytes f h e bad = flags_clash OfEvent vs rest bytes f (event_set app p t j vs h.values) e bad
  set_clash (component.Alarm a) is vs rest bytes f h e bad = flags_clash OfAlarm vs rest bytes f (alarm_set app p a vs h.values) e bad
  set_clash (component.Source j) is vs rest bytes f h e bad = listed_clash app p (component.Source j) is vs rest bytes f h e bad

  pub one_set_fault : (k : Component) → IsComponent app k → (bytes : List ℕ) (f g : Fault) → IsSetFault app p k bytes f → IsSetFault app p k bytes g → f ≡ g
  one_set_fault (component.Task t) is bytes f g h d = one_listed_fault app p (component.Task t) is bytes f g h d
  one_set_fault (component.Event t j) is bytes f g h d = one_flags_fault bytes f g h d
  one_set_fault (component.Alarm a) is bytes f g h d = one_flags_fault bytes f g h d
  one_set_fault (component.Source j) is bytes f g h d = one_listed_fault app p (component.Source j) is bytes f g h d
