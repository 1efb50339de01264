-- The sets of an entry, and the entry of a point: they are read in one way, or have one fault.
use Rattle.std.proofs.Common.{◌≡◌, ℕ, suc, ◌+◌, ◌<◌, ◌≤◌, List, [], ◌∷◌, ◌++◌, length, map, get_or, refl, sym, ap, subst, ◌∙◌, inl, inr, arith, append_assoc, length-append, Some, None}
use Rattle.std.specs.{Prelude.{slice_get}, List.{zip}, declared.option.Option.{Option}}
use Rattle.std.proofs.{Math.Seq.{get_or-append_seam}, lemmas.List.{length_push, length-map, Concat.{flat_map-cons}}}
use Rattle.osek_values.specs.Numbers.{alarm_no}
use Rattle.osek_standard.specs.declared.{app.App.{App}, point.Point.{Point}}
use Rattle.abstract_state.specs.declared.value.{Component.{Component}, PartValue.{PartValue}, Domain.{Domain}}
use Rattle.abstract_state.specs.declared.value.Component.TheVariants as component
use Rattle.abstract_state.specs.{declared.table.{ValueSet.{ValueSet}, PlainEntry.{PlainEntry}}, Components.{components, component_at, component_count}}
use Rattle.abstract_state.specs.Domains.{domains, domains_of, domain_of}
use Rattle.abstract_state.proofs.ComponentLaws.{component_known}
use Rattle.table_codec.specs.{declared.fault.Fault.{Fault}, Spelling.{set_bytes, sets_bytes, members_of}, Faults.{IsSetFault, IsGoodSet, AreGoodSets, IsEntryFault, IsPointFault}}
use Rattle.table_codec.specs.{Sets.{IsReadEntry}, Rows.{IsReadRow}}
use Rattle.table_codec.proofs.{Sequences.{Runs, one_run, no_fault, one_fault}, SetFaults.{one_set, set_clash, one_set_fault}}

pub no_bytes : (ks : List Component) → sets_bytes ks [] ≡ []
no_bytes [] = refl
no_bytes (k ∷ ks) = refl

pub more_sets : (k : Component) (ks : List Component) (vs : List PartValue) (sets : List (List PartValue)) → sets_bytes (k ∷ ks) (vs ∷ sets) ≡ set_bytes k vs ++ sets_bytes ks sets
more_sets k ks vs sets = flat_map-cons (λ (d : Component × List PartValue). set_bytes d.0 d.1) (k, vs) (zip ks sets)

-- entries with the same domains and the same values
pub same_entry : (a b : List ValueSet) → map (λ (set : ValueSet). set.domain) a ≡ map (λ (set : ValueSet). set.domain) b → map (λ (set : ValueSet). set.members) a ≡ map (λ (set : ValueSet). set.members) b → a ≡ b
same_entry [] [] e d = refl
same_entry [] (y ∷ b) e d = absurd (cc)
same_entry (x ∷ a) [] e d = absurd (cc)
same_entry (x ∷ a) (y ∷ b) e d =
    let domain : x.domain ≡ y.domain = cc in
    let members : x.members ≡ y.members = cc in
    let rest : map (λ (set : ValueSet). set.domain) a ≡ map (λ (set : ValueSet). set.domain) b = cc in
    let others : map (λ (set : ValueSet). set.members) a ≡ map (λ (set : ValueSet). set.members) b = cc in
    let here : x ≡ y = ap (λ (v : Domain). set_of v x.members) domain ∙ ap (λ (vs : List PartValue). set_of y.domain vs) members in
    ap (λ (z : ValueSet). z ∷ a) here ∙ ap (λ (zs : List ValueSet). y ∷ zs) (same_entry a b rest others)
  where
    set_of : Domain → List PartValue → ValueSet
    set_of v vs = record { domain = v; members = vs }

module _ (app : App) (p : Point) where
  abbrev place_of : List (List PartValue) → Component
  place_of before = component_at app (length before)

  abbrev Reads : List (List PartValue) → List ℕ → List ℕ → List PartValue → Type 0
  Reads before bytes rest vs = (length before < component_count app) × IsGoodSet app p (place_of before) vs × (bytes ≡ set_bytes (place_of before) vs ++ rest)

  abbrev Fails : List (List PartValue) → List ℕ → Fault → Type 0
  Fails before bytes f = (length before < component_count app) × IsSetFault app p (place_of before) bytes f

  one_read : (before : List (List PartValue)) (bytes r s : List ℕ) (vs ws : List PartValue) → Reads before bytes r vs → Reads before bytes s ws → (vs ≡ ws) × (r ≡ s)
  one_read before bytes r s vs ws h g = one_set app p (place_of before) (component_known app (length before) h.0) vs ws r s h.1 g.1 (sym h.2 ∙ g.2)

  read_clash : (before : List (List PartValue)) (bytes r : List ℕ) (vs : List PartValue) (f : Fault) → Reads before bytes r vs → Fails before bytes f → ⊥
  read_clash before bytes r vs f h bad = set_clash app p (place_of before) (component_known app (length before) h.0) vs r bytes f h.1 h.2 bad.1

  one_fail : (before : List (List PartValue)) (bytes : List ℕ) (f g : Fault) → Fails before bytes f → Fails before bytes g → f ≡ g
  one_fail before bytes f g h d = one_set_fault app p (place_of before) (component_known app (length before) h.0) bytes f g h.1 d.1

  -- the sets of components from a place on
  abbrev GoodFrom : ℕ → List (List PartValue) → Type 0
  GoodFrom n sets = (c : ℕ) (vs : List PartValue) → slice_get sets c ≡ Some vs → IsGoodSet app p (component_at app (n + c)) vs

  runs_from : (done ks : List Component) (before sets : List (List PartValue)) (bytes rest : List ℕ) → components app ≡ done ++ ks → length before ≡ length done → length sets ≤ length ks
      → GoodFrom (length before) sets → bytes ≡ sets_bytes ks sets ++ rest → Runs Reads before bytes sets rest
  runs_from done ks before [] bytes rest is size few good e = e ∙ ap (λ (l : List ℕ). l ++ rest) (no_bytes ks)
  runs_from done [] before (vs ∷ sets) bytes rest is size few good e = absurd (omega (arith, few))
  runs_from done (k ∷ ks) before (vs ∷ sets) bytes rest is size few good e =
      let here : place_of before ≡ k
      = ap (λ (cs : List Component). get_or cs (length before) (component.Alarm (alarm_no 0))) is ∙ ap (λ (n : ℕ). get_or (done ++ k ∷ ks) n (component.Alarm (alarm_no 0))) size ∙ get_or-append_seam done k ks (component.Alarm (alarm_no 0)) in
      let first : length before + 0 ≡ length before = omega arith in
      let known : length before < component_count app = omega (arith, ap (λ (cs : List Component). length cs) is, length-append done (k ∷ ks), size) in
      let next : length (before ++ vs ∷ []) ≡ length done + 1 = omega (arith, length_push before vs, size) in
      let mid = sets_bytes ks sets ++ rest in
      let spelled : bytes ≡ set_bytes k vs ++ mid = e ∙ ap (λ (l : List ℕ). l ++ rest) (more_sets k ks vs sets) ∙ append_assoc (set_bytes k vs) (sets_bytes ks sets) rest in (
        mid,
        (known, subst (λ (n : ℕ). IsGoodSet app p (component_at app n) vs) first (good 0 vs refl), spelled ∙ ap (λ (c : Component). set_bytes c vs ++ mid) (sym here)),
        runs_from (done ++ k ∷ []) ks (before ++ vs ∷ []) sets mid rest (is ∙ sym (append_assoc done (k ∷ []) ks)) (omega (arith, next, length_push done k)) (omega (arith, few))
            (λ c ws h. let e : length before + suc c ≡ length (before ++ vs ∷ []) + c = omega (arith, length_push before vs) in subst (λ (n : ℕ). IsGoodSet app p (component_at app n) ws) e (good (suc c) ws h)) refl,
      )

  pub runs_of_sets : (sets : List (List PartValue)) (bytes rest : List ℕ) → length sets ≤ component_count app → AreGoodSets app p sets → bytes ≡ sets_bytes (components app) sets ++ rest → Runs Reads [] bytes sets rest
  runs_of_sets sets bytes rest few good e = runs_from [] (components app) [] sets bytes rest refl refl few (λ c vs h. let e : c ≡ 0 + c = omega arith in subst (λ (n : ℕ). IsGoodSet app p (component_at app n) vs) e (good c vs h)) e

  -- an entry has a set for each component
  pub entry_size : (entry : PlainEntry) → domains entry ≡ domains_of app → length (members_of entry) ≡ component_count app
  entry_size entry e =
      length-map entry.sets (λ (set : ValueSet). set.members) ∙ sym (length-map entry.sets (λ (set : ValueSet). set.domain)) ∙ ap (λ (ds : List Domain). length ds) e ∙ length-map (components app) (domain_of app)

  entry_runs : (entry : PlainEntry) (bytes rest : List ℕ) → IsReadEntry app p bytes rest entry → Runs Reads [] bytes (members_of entry) rest
  entry_runs entry bytes rest h = runs_of_sets (members_of entry) bytes rest (omega (arith, entry_size entry h.domains)) h.good h.are

  pub one_entry : (bytes r s : List ℕ) (a b : PlainEntry) → IsReadEntry app p bytes r a → IsReadEntry app p bytes s b → (a ≡ b) × (r ≡ s)
  one_entry bytes r s a b h g =
      let sizes : length (members_of a) ≡ length (members_of b) = omega (arith, entry_size a h.domains, entry_size b g.domains) in
      let same = one_run Reads one_read [] bytes r s (members_of a) (members_of b) (entry_runs a bytes r h) (entry_runs b bytes s g) sizes in
      (ap entry_of (same_entry a.sets b.sets (h.domains ∙ sym g.domains) same.0), same.1)
    where
      entry_of : List ValueSet → PlainEntry
      entry_of sets = record { sets = sets }

  fault_runs : (bytes : List ℕ) (f : Fault) (bad : IsEntryFault app p bytes f) → Runs Reads [] bytes bad.sets bad.rest
  fault_runs bytes f bad = runs_of_sets bad.sets bytes bad.rest (omega (arith, bad.few)) bad.good bad.are

  pub entry_clash : (bytes rest : List ℕ) (entry : PlainEntry) (f : Fault) → IsReadEntry app p bytes rest entry → IsEntryFault app p bytes f → ⊥
  entry_clash bytes rest entry f h bad =
      no_fault Reads one_read Fails read_clash [] bytes bad.rest rest bad.sets (members_of entry) f (fault_runs bytes f bad) (bad.few, bad.next) (entry_runs entry bytes rest h) (omega (arith, bad.few, entry_size entry h.domains))

  pub one_entry_fault : (bytes : List ℕ) (f g : Fault) → IsEntryFault app p bytes f → IsEntryFault app p bytes g → f ≡ g
  one_entry_fault bytes f g bad worse =
      one_fault Reads one_read Fails read_clash one_fail [] bytes bad.rest worse.rest bad.sets worse.sets f g (fault_runs bytes f bad) (bad.few, bad.next) (fault_runs bytes g worse) (worse.few, worse.next)

  -- ---- of a point

  pub one_row : (bytes r s : List ℕ) (a b : Option PlainEntry) → IsReadRow app p bytes r a → IsReadRow app p bytes s b → (a ≡ b) × (r ≡ s)
  one_row bytes r s None None h g = (let rest : r ≡ s = cc (h, g) in (refl, rest))
  one_row bytes r s None (Some b) h g = absurd (cc (h, g.1))
  one_row bytes r s (Some a) None h g = absurd (cc (h.1, g))
  one_row bytes r s (Some a) (Some b) h g =
      let mid : h.0 ≡ g.0 = cc (h.1, g.1) in
      let same = one_entry h.0 r s a b h.2 (subst (λ (l : List ℕ). IsReadEntry app p l s b) (sym mid) g.2) in
      (ap (λ (x : PlainEntry). Some x) same.0, same.1)

  pub row_clash : (bytes rest : List ℕ) (found : Option PlainEntry) (f : Fault) → IsReadRow app p bytes rest found → IsPointFault app p bytes f → ⊥
  row_clash [] rest None f h bad = absurd (cc)
  row_clash [] rest (Some entry) f h bad = absurd (cc (h.1))
  row_clash (n ∷ bytes) rest None f h (inl high) = (let zero : n ≡ 0 = cc in omega (arith, zero, high.0))
  row_clash (n ∷ bytes) rest None f h (inr bad) = (let one : n ≡ 1 = cc (bad.1) in let zero : n ≡ 0 = cc in omega (arith, zero, one))
  row_clash (n ∷ bytes) rest (Some entry) f h (inl high) = (let one : n ≡ 1 = cc (h.1) in omega (arith, one, high.0))
  row_clash (n ∷ bytes) rest (Some entry) f h (inr bad) = (let mid : h.0 ≡ bad.0 = cc (h.1, bad.1) in entry_clash bad.0 rest entry f (subst (λ (l : List ℕ). IsReadEntry app p l rest entry) mid h.2) bad.2)

  pub one_point_fault : (bytes : List ℕ) (f g : Fault) → IsPointFault app p bytes f → IsPointFault app p bytes g → f ≡ g
  one_point_fault [] f g (inl h) (inl d) = h ∙ sym d
  one_point_fault [] f g (inl h) (inr d) = absurd (cc (d.1))
  one_point_fault [] f g (inr h) d = absurd (cc (h.1))
  one_point_fault (n ∷ bytes) f g (inl h) (inl d) = h.1 ∙ sym d.1
  one_point_fault (n ∷ bytes) f g (inl h) (inr d) = (let one : n ≡ 1 = cc (d.1) in absurd (omega (arith, h.0, one)))
  one_point_fault (n ∷ bytes) f g (inr h) (inl d) = (let one : n ≡ 1 = cc (h.1) in absurd (omega (arith, d.0, one)))
  one_point_fault (n ∷ bytes) f g (inr h) (inr d) = (let same : d.0 ≡ h.0 = cc (h.1, d.1) in one_entry_fault h.0 f g h.2 (subst (λ (l : List ℕ). IsEntryFault app p l g) same d.2))
