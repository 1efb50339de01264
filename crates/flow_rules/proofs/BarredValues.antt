-- Which values pass where values are barred.
use Rattle.std.proofs.Common.{◌≡◌, ℕ, ◌+◌, ◌<◌, Bool, true, false, not, List, [], ◌∷◌, ◌++◌, length, get_or, take, flat_map, refl, sym, ap, subst, ◌∙◌, inl, inr, IsTrue}
use Rattle.std.specs.Prelude.{if◌then◌else◌}
use Rattle.std.proofs.lemmas.{Bool.{cases_Bool}, Grind.{flat_map-append}, List.{append-nil, take_more, Elements.{Contains-get_or}}, Map.Views.{Contains-from_any}}
use Rattle.osek_standard.specs.declared.app.App.{App}
use Rattle.osek_standard.proofs.Members.{Among, among_flat_map, flat_map_among, contained_among, among_contained}
use Rattle.abstract_state.specs.declared.value.{Component.{Component}, ComponentNo.{ComponentNo}, PartValue.{PartValue}}
use Rattle.abstract_state.specs.declared.value.Component.TheVariants as component
use Rattle.abstract_state.specs.{declared.table.PlainEntry.{PlainEntry}, Components.{components, component_at, component_count, component_number, component_no}}
use Rattle.abstract_state.specs.{Tables.{set_at, is_member}, ValueOrder.{same_part}}
use Rattle.abstract_state.proofs.{ComponentLaws.{component_numbered}, OrderLaws.{part_right, part_itself}}
use Rattle.flow_model.specs.declared.{change.Change.{Change}, test.Condition.{Condition}}
use Rattle.flow_model.specs.declared.test.Test.TheVariants as test
use Rattle.flow_model.specs.{Effects.{AreIn}, Tests.{passes, PassesAll, value_after}}
use Rattle.flow_rules.specs.Ruling.{bars, bars_at, barred}

module _ (app : App) (changes : List Change) (from kept : PlainEntry) where
  abbrev bar : ComponentNo → PartValue → Condition
  bar k v = record { component = k; test = test.IsNot v }

  abbrev is_kept : ComponentNo → PartValue → Bool
  is_kept k v = is_member (set_at kept k.0) (value_after changes k.0 v)

  abbrev all_bars : Component → List Condition
  all_bars k = bars_at changes from kept (component_no (component_number app k))

  -- a bar is of a value of which the changes make none that is kept
  bar_is : (k : ComponentNo) (v : PartValue) (x : Condition) → Among x (bars changes (set_at kept k.0) k v) → (x ≡ bar k v) × (is_kept k v ≡ false)
  bar_is k v x m = elim (cases_Bool (is_kept k v)) [
    | inl e ↦ absurd (subst (λ (b : Bool). Among x (if b then [] else bar k v ∷ [])) e m)
    | inr e ↦ elim (subst (λ (b : Bool). Among x (if b then [] else bar k v ∷ [])) e m) [
      | inl is ↦ (is, e)
      | inr none ↦ absurd none
    ]
  ]

  is_barred : (k : ComponentNo) (v : PartValue) → is_kept k v ≡ false → Among (bar k v) (bars changes (set_at kept k.0) k v)
  is_barred k v e = subst (λ (b : Bool). Among (bar k v) (if b then [] else bar k v ∷ [])) (sym e) (inl refl)

  -- values of which the changes make some that are kept pass
  pub kept_pass : (value : ℕ → PartValue) → ((c : ℕ) → c < component_count app → IsTrue (is_member (set_at kept c) (value_after changes c (value c)))) → PassesAll app (barred app changes from kept) value
  kept_pass value h c lt x m same =
      let k = flat_map_among all_bars x (components app) (contained_among (barred app changes from kept) x m) in
      let number : ComponentNo = component_no (component_number app k.0) in
      let v = flat_map_among (bars changes (set_at kept number.0) number) x (set_at from number.0).members k.2 in
      let b = bar_is number v.0 x v.2 in
      let here : number.0 ≡ c = sym (ap (λ (z : Condition). z.component.0) b.0) ∙ same in
      let lost : is_member (set_at kept c) (value_after changes c v.0) ≡ false = subst (λ (n : ℕ). is_member (set_at kept n) (value_after changes n v.0) ≡ false) here b.1 in
      let differs : same_part (value c) v.0 ≡ false = elim (cases_Bool (same_part (value c) v.0)) [
        | inl e ↦
            (let there : is_member (set_at kept c) (value_after changes c v.0) ≡ true = subst (λ (w : PartValue). is_member (set_at kept c) (value_after changes c w) ≡ true) (part_right (value c) v.0 e) (h c lt) in
            absurd (cc))
        | inr e ↦ e
      ] in
      ap (λ (z : Condition). passes z.test (value c)) b.0 ∙ ap not differs

  -- and of the values that pass the changes make kept ones
  pub passing_kept : (value : ℕ → PartValue) → AreIn app from value → PassesAll app (barred app changes from kept) value → (c : ℕ) → c < component_count app → IsTrue (is_member (set_at kept c) (value_after changes c (value c)))
  passing_kept value within passing c lt = elim (cases_Bool (is_kept (component_no c) (value c))) [
    | inl e ↦ e
    | inr e ↦
        (let k : Component = component_at app c in
        let x : Condition = bar (component_no c) (value c) in
        let there : Among (value c) (set_at from c).members = contained_among (set_at from c).members (value c) (Contains-from_any part_right (value c) (set_at from c).members (within c lt)) in
        let here : Among x (bars_at changes from kept (component_no c)) =
        among_flat_map (bars changes (set_at kept c) (component_no c)) (value c) x (set_at from c).members there (is_barred (component_no c) (value c) e) in
        let listed : Among k (components app) = contained_among (components app) k (Contains-get_or (components app) c (component.Alarm (record { 0 = 0 })) lt) in
        let whole : Among x (barred app changes from kept) =
        among_flat_map all_bars k x (components app) listed (subst (λ (n : ℕ). Among x (bars_at changes from kept (component_no n))) (sym (component_numbered app c lt)) here) in
        let p : passes x.test (value c) ≡ true = passing c lt x (among_contained (barred app changes from kept) x whole) refl in
        let itself : same_part (value c) (value c) ≡ true = part_itself (value c) in
        absurd (cc))
  ]

-- ---- one component after another

pub flat_more : {X Y : Type 0} (f : X → List Y) (xs : List X) (i : ℕ) (d : X) → i < length xs → flat_map f (take (i + 1) xs) ≡ flat_map f (take i xs) ++ f (get_or xs i d)
flat_more f xs i d lt = ap (flat_map f) (take_more xs i d lt) ∙ flat_map-append f (take i xs) (get_or xs i d ∷ []) ∙ ap (λ ys. flat_map f (take i xs) ++ ys) (append-nil (f (get_or xs i d)))
