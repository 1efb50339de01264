-- What changes make of a value, and which values pass conditions.
use Rattle.std.proofs.Common.{◌≡◌, ◌≢◌, ℕ, ◌<◌, Bool, List, [], ◌∷◌, ◌++◌, refl, sym, ap, subst, ◌∙◌, inl, inr, ⊎_elim, IsTrue}
use Rattle.std.specs.Prelude.{if◌then◌else◌, ◌==◌}
use Rattle.std.proofs.lemmas.Bool.{cases_eq, eq-eqb, ne_eqb}
use Rattle.osek_standard.specs.declared.app.App.{App}
use Rattle.osek_standard.proofs.Members.{Among, among_left, among_right, among_cases, contained_among, among_contained}
use Rattle.abstract_state.specs.{declared.value.PartValue.{PartValue}, Components.{component_count}}
use Rattle.flow_model.specs.{declared.{change.Change.{Change}, test.Condition.{Condition}}, Tests.{passes, updated, value_after, PassesAll}}

module _ (x : Change) (xs : List Change) (c : ℕ) (v : PartValue) where
  -- the first change, at its component and at another
  pub change_here : x.component.0 ≡ c → value_after (x ∷ xs) c v ≡ value_after xs c (updated x.update v)
  change_here same = ap (λ (b : Bool). value_after xs c (if b then updated x.update v else v)) (eq-eqb x.component.0 c same)

  pub change_there : x.component.0 ≢ c → value_after (x ∷ xs) c v ≡ value_after xs c v
  change_there other = ap (λ (b : Bool). value_after xs c (if b then updated x.update v else v)) (ne_eqb x.component.0 c other)

-- changes after others
pub after_both : (xs ys : List Change) (c : ℕ) (v : PartValue) → value_after (xs ++ ys) c v ≡ value_after ys c (value_after xs c v)
after_both [] ys c v = refl
after_both (x ∷ xs) ys c v = after_both xs ys c (if x.component.0 == c then updated x.update v else v)

-- a component that no change names stays as it is
pub elsewhere : (xs : List Change) (c : ℕ) (v : PartValue) → ((x : Change) → Among x xs → x.component.0 ≢ c) → value_after xs c v ≡ v
elsewhere [] c v other = refl
elsewhere (x ∷ xs) c v other = change_there x xs c v (other x (inl refl)) ∙ elsewhere xs c v (λ y m. other y (inr m))

-- each change that names the component makes it this value, whatever it was
abbrev Make : List Change → ℕ → PartValue → Type 0
Make xs c w = (y : Change) → Among y xs → y.component.0 ≡ c → (v : PartValue) → updated y.update v ≡ w

stays_made : (xs : List Change) (c : ℕ) (w : PartValue) → Make xs c w → value_after xs c w ≡ w
stays_made [] c w each = refl
stays_made (y ∷ xs) c w each = elim (cases_eq y.component.0 c) [
  | inl here ↦ change_here y xs c w here ∙ ap (value_after xs c) (each y (inl refl) here w) ∙ stays_made xs c w (λ z n. each z (inr n))
  | inr there ↦ change_there y xs c w there ∙ stays_made xs c w (λ z n. each z (inr n))
]

-- so it becomes that where some change names it
pub made : (xs : List Change) (c : ℕ) (v w : PartValue) (x : Change) → Among x xs → x.component.0 ≡ c → Make xs c w → value_after xs c v ≡ w
made [] c v w x m same each = absurd m
made (y ∷ xs) c v w x m same each = elim (cases_eq y.component.0 c) [
  | inl here ↦ change_here y xs c v here ∙ ap (value_after xs c) (each y (inl refl) here v) ∙ stays_made xs c w (λ z n. each z (inr n))
  | inr there ↦ change_there y xs c v there ∙ made xs c v w x
      (⊎_elim (λ e. absurd (there (ap (λ (z : Change). z.component.0) (sym e) ∙ same))) (λ n. n) m) same (λ z n. each z (inr n))
]

module _ (app : App) (value : ℕ → PartValue) where
  abbrev Passes : Condition → Type 0
  Passes x = IsTrue (passes x.test (value x.component.0))

  -- conditions pass where each does
  pub passes_each : (xs : List Condition) → ((x : Condition) → Among x xs → IsTrue (passes x.test (value x.component.0))) → PassesAll app xs value
  passes_each xs each c lt x m same = subst (λ (n : ℕ). IsTrue (passes x.test (value n))) same (each x (contained_among xs x m))

  pub each_passes : (xs : List Condition) → PassesAll app xs value → (x : Condition) → Among x xs → x.component.0 < component_count app → IsTrue (passes x.test (value x.component.0))
  each_passes xs all x m lt = all x.component.0 lt x (among_contained xs x m) refl

  pub passes_none : PassesAll app [] value
  passes_none = passes_each [] (λ x m. absurd m)

  pub passes_one : (x : Condition) → IsTrue (passes x.test (value x.component.0)) → PassesAll app (x ∷ []) value
  passes_one x h = passes_each (x ∷ []) (λ y m. ⊎_elim (λ e. subst Passes (sym e) h) (λ n. absurd n) m)

  pub one_passes : (x : Condition) → PassesAll app (x ∷ []) value → x.component.0 < component_count app → IsTrue (passes x.test (value x.component.0))
  one_passes x all lt = each_passes (x ∷ []) all x (inl refl) lt

  pub passes_both : (xs ys : List Condition) → PassesAll app xs value → PassesAll app ys value → PassesAll app (xs ++ ys) value
  passes_both xs ys left right c lt x m same = ⊎_elim
      (λ h. left c lt x (among_contained xs x h) same)
      (λ h. right c lt x (among_contained ys x h) same)
      (among_cases x xs ys (contained_among (xs ++ ys) x m))

  pub passes_left : (xs ys : List Condition) → PassesAll app (xs ++ ys) value → PassesAll app xs value
  passes_left xs ys all c lt x m same = all c lt x (among_contained (xs ++ ys) x (among_left x xs ys (contained_among xs x m))) same

  pub passes_right : (xs ys : List Condition) → PassesAll app (xs ++ ys) value → PassesAll app ys value
  passes_right xs ys all c lt x m same = all c lt x (among_contained (xs ++ ys) x (among_right x xs ys (contained_among ys x m))) same
