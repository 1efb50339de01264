-- What a reader knows between two items: of the values of a set, of the sets of an entry, and of the rows of a table.
use Rattle.std.proofs.Common.{◌≡◌, ◌⊎◌, ℕ, zero, suc, ◌<◌, List, [], ◌∷◌, ◌++◌, length, map, take, get_or, refl, sym, ap, ap₂, subst, ◌∙◌, inl, inr, arith, append_assoc, append-nil, All, Some}
use Rattle.std.specs.{Prelude.{slice_get}, Int.{to_be_bytes, w32}, List.{flat_map}}
use Rattle.std.proofs.lemmas.{Grind.{flat_map-append}, List.{length_push, length-map, map-append, take_more, get_or_default, Elements.{All-nil, All-push}}}
use Rattle.osek_standard.specs.declared.{app.App.{App}, point.Point.{Point}}
use Rattle.abstract_state.specs.declared.value.{Component.{Component}, PartValue.{PartValue}, Domain.{Domain}}
use Rattle.abstract_state.specs.declared.value.Component.TheVariants as component
use Rattle.osek_values.specs.Numbers.{alarm_no}
use Rattle.abstract_state.specs.{declared.table.ValueSet.{ValueSet}, ValueOrder.{IsAscending}, Components.{components, component_at, component_count, IsPart, IsComponent}}
use Rattle.abstract_state.specs.Domains.{domain_of}
use Rattle.abstract_state.proofs.{ComponentLaws.{component_known}, OrderLaws.{ascending_none}}
use Rattle.numbered_sets.specs.Pools.{no_values as none_seen, pool_domains}
use Rattle.table_codec.specs.{Spelling.{value_bytes, set_bytes, sets_bytes}, Faults.{IsGoodSet, AreGoodSets}}
use Rattle.table_codec.specs.Sets.{IsNextValue, IsReadSet}
use Rattle.table_codec.proofs.EntryFaults.{more_sets, no_bytes}

pub one_more_flat : {X : Type 0} (f : X → List ℕ) (xs : List X) (x : X) → flat_map f (xs ++ x ∷ []) ≡ flat_map f xs ++ f x
one_more_flat f xs x = flat_map-append f xs (x ∷ []) ∙ ap (λ (l : List ℕ). flat_map f xs ++ l) (append-nil (f x))

-- behind what was read, an item and the rest
pub read_on : (bytes prefix item rest after : List ℕ) → bytes ≡ prefix ++ rest → rest ≡ item ++ after → bytes ≡ (prefix ++ item) ++ after
read_on bytes prefix item rest after e d = e ∙ ap (λ (l : List ℕ). prefix ++ l) d ∙ sym (append_assoc prefix item after)

-- ---- the values of a set

module _ (app : App) (p : Point) (k : Component) (count : ℕ) (bytes : List ℕ) where
  pub record AreValuesSoFar (vs : List PartValue) (rest : List ℕ) : Type 0 where
    pub allowed : All (IsPart app p k) vs
    pub ascending : IsAscending vs
    pub are : bytes ≡ to_be_bytes w32 count ++ (flat_map value_bytes vs ++ rest)

  pub no_values : (rest : List ℕ) → bytes ≡ to_be_bytes w32 count ++ rest → AreValuesSoFar [] rest
  no_values rest e = record { allowed = All-nil (IsPart app p k); ascending = ascending_none; are = e }

  pub next_value : (vs : List PartValue) (rest after : List ℕ) (v : PartValue) → AreValuesSoFar vs rest → IsNextValue app p k vs rest after v → AreValuesSoFar (vs ++ v ∷ []) after
  next_value vs rest after v h next = record {
    allowed = All-push (IsPart app p k) vs v h.allowed next.allowed;
    ascending = next.above;
    are = h.are ∙ ap (λ (l : List ℕ). to_be_bytes w32 count ++ l) (read_on (flat_map value_bytes vs ++ rest) (flat_map value_bytes vs) (value_bytes v) rest after refl next.are ∙ ap (λ (l : List ℕ). l ++ after) (sym (one_more_flat value_bytes vs v)));
  }

-- ---- the sets of an entry

-- the component that a list of all of them has at a place
pub component_there : (app : App) (ks : List Component) (n : ℕ) (k : Component) → ks ≡ components app → ((d : Component) → get_or ks n d ≡ k) → component_at app n ≡ k
component_there app ks n k same at = ap (λ (cs : List Component). get_or cs n (component.Alarm (alarm_no 0))) (sym same) ∙ at (component.Alarm (alarm_no 0))

pub component_item : (app : App) (ks : List Component) (n : ℕ) (d : Component) → ks ≡ components app → n < length ks → IsComponent app (get_or ks n d)
component_item app ks n d same lt =
    let known : n < component_count app = omega (arith, lt, ap (λ (cs : List Component). length cs) same) in
    subst (λ (cs : List Component). IsComponent app (get_or cs n d)) (sym same)
    (subst (IsComponent app) (get_or_default (components app) n (component.Alarm (alarm_no 0)) d known) (component_known app n known))

pub empty_domains : (ds : List Domain) → pool_domains (map none_seen ds) ≡ ds
empty_domains [] = refl
empty_domains (d ∷ ds) = ap (λ (es : List Domain). d ∷ es) (empty_domains ds)

-- the sets of some components and of the next one
sets_push : (ks : List Component) (k : Component) (sets : List (List PartValue)) (vs : List PartValue) → length sets < length ks → get_or ks (length sets) k ≡ k → sets_bytes ks (sets ++ vs ∷ []) ≡ sets_bytes ks sets ++ set_bytes k vs
sets_push [] k sets vs few at = absurd (omega (arith, few))
sets_push (c ∷ ks) k [] vs few at = more_sets c ks vs [] ∙ ap (λ (l : List ℕ). set_bytes c vs ++ l) (no_bytes ks) ∙ append-nil (set_bytes c vs) ∙ ap (λ (d : Component). set_bytes d vs) at
sets_push (c ∷ ks) k (ws ∷ sets) vs few at =
    more_sets c ks ws (sets ++ vs ∷ []) ∙ ap (λ (l : List ℕ). set_bytes c ws ++ l) (sets_push ks k sets vs (omega (arith, few)) at)
    ∙ sym (append_assoc (set_bytes c ws) (sets_bytes ks sets) (set_bytes k vs)) ∙ ap (λ (l : List ℕ). l ++ set_bytes k vs) (sym (more_sets c ks ws sets))

slice_get_push : {X : Type 0} (xs : List X) (y : X) (c : ℕ) (x : X) → slice_get (xs ++ y ∷ []) c ≡ Some x → (slice_get xs c ≡ Some x) ⊎ ((c ≡ length xs) × (y ≡ x))
slice_get_push [] y zero x e = inr (refl, cc)
slice_get_push [] y (suc c) x e = absurd (cc)
slice_get_push (z ∷ xs) y zero x e = inl e
slice_get_push (z ∷ xs) y (suc c) x e = elim (slice_get_push xs y c x e) [
  | inl there ↦ inl there
  | inr last ↦ inr (ap (λ (n : ℕ). suc n) last.0, last.1)
]

abbrev pub members : List ValueSet → List (List PartValue)
members sets = map (λ (set : ValueSet). set.members) sets

module _ (app : App) (p : Point) (bytes : List ℕ) where
  pub record AreSetsSoFar (sets : List ValueSet) (rest : List ℕ) : Type 0 where
    pub good : AreGoodSets app p (members sets)
    pub domains : map (λ (set : ValueSet). set.domain) sets ≡ map (domain_of app) (take (length sets) (components app))
    pub are : bytes ≡ sets_bytes (components app) (members sets) ++ rest

  pub no_sets : AreSetsSoFar [] bytes
  no_sets = record { good = λ c vs e. absurd (cc); domains = refl; are = ap (λ (l : List ℕ). l ++ bytes) (sym (no_bytes (components app))) }

  pub next_set : (sets : List ValueSet) (rest after : List ℕ) (set : ValueSet) → length sets < component_count app → AreSetsSoFar sets rest → IsReadSet app p (component_at app (length sets)) rest after set → AreSetsSoFar (sets ++ set ∷ []) after
  next_set sets rest after set few h read =
      let k = component_at app (length sets) in
      let at : get_or (components app) (length (members sets)) k ≡ k = ap (λ (n : ℕ). get_or (components app) n k) (length-map sets (λ (s : ValueSet). s.members)) ∙ get_or_default (components app) (length sets) k (component.Alarm (alarm_no 0)) few in
      let pushed : members (sets ++ set ∷ []) ≡ members sets ++ set.members ∷ [] = map-append (λ (s : ValueSet). s.members) sets (set ∷ []) in
      let spelled : sets_bytes (components app) (members (sets ++ set ∷ [])) ≡ sets_bytes (components app) (members sets) ++ set_bytes k set.members
      = ap (sets_bytes (components app)) pushed ∙ sets_push (components app) k (members sets) set.members (omega (arith, few, length-map sets (λ (s : ValueSet). s.members))) at in
      record {
        good = λ c vs e. elim (slice_get_push (members sets) set.members c vs (ap (λ (l : List (List PartValue)). slice_get l c) (sym pushed) ∙ e)) [
          | inl there ↦ h.good c vs there
          | inr last ↦
              (let here : length sets ≡ c = sym (last.0 ∙ length-map sets (λ (s : ValueSet). s.members)) in
              subst (IsGoodSet app p (component_at app c)) last.1 (subst (λ (n : ℕ). IsGoodSet app p (component_at app n) set.members) here read.good))
        ];
        domains =
            map-append (λ (s : ValueSet). s.domain) sets (set ∷ [])
            ∙ ap₂ (λ (ds : List Domain) (d : Domain). ds ++ d ∷ []) h.domains read.domain
            ∙ sym (map-append (domain_of app) (take (length sets) (components app)) (k ∷ []))
            ∙ ap (map (domain_of app)) (sym (take_more (components app) (length sets) (component.Alarm (alarm_no 0)) few))
            ∙ ap (λ (n : ℕ). map (domain_of app) (take n (components app))) (sym (length_push sets set));
        are = read_on bytes (sets_bytes (components app) (members sets)) (set_bytes k set.members) rest after h.are read.are ∙ ap (λ (l : List ℕ). l ++ after) (sym spelled);
      }
