-- Stacks of an application: none is higher than there are resources that may be taken, and a lower one lacks one of these.
use Rattle.std.proofs.Common.{◌≡◌, ◌⊎◌, ◌<◌, ◌≤◌, Bool, true, false, not, ◌||◌, IsTrue, List, [], ◌∷◌, length, refl, sym, ap, subst, ◌∙◌, inl, inr, arith}
use Rattle.std.specs.Prelude.{◌==◌}
use Rattle.std.proofs.lemmas.{Bool.{cases_Bool, eqb-true}, List.Elements.{recursion_from_All}}
use Rattle.osek_values.specs.{declared.numbers.ResNo.{ResNo}, Numbers.{res_no}}
use Rattle.osek_standard.specs.{declared.app.App.{App}, Counts.{takable_count}, TaskStates.{holds}, Validity.{is_internal}, Well.{IsStack, same_resource}}
use Rattle.osek_standard.proofs.{Members.{Among, among_contained, among_each, contained_among}, StackLaws.{IsTakable}}
use Rattle.abstract_state.specs.Domains.{resources_in, takable_resources}
use Rattle.abstract_state.proofs.{DomainValues.{apart_resources, known_takable, takable_known}, HeightLaws.{takable_counted}}
use Rattle.abstract_state.proofs.Stacks.{Apart, among_without, apart_distinct, apart_without, length_without, resource_itself, without}

-- a list without repeats is no longer than another that has all of it
few_apart : (xs ys : List ResNo) → Apart xs → Apart ys → ((r : ResNo) → Among r xs → Among r ys) → length xs ≤ length ys
few_apart [] ys a b h = omega arith
few_apart (x ∷ xs) ys a b h =
    let others : (q : ResNo) → Among q xs → Among q (without x ys) = λ q m. among_without x q ys (h q (inr m)) (λ same. a.0 (subst (λ (r : ResNo). Among r xs) (sym same) m)) in
    let rest : length xs ≤ length (without x ys) = few_apart xs (without x ys) a.1 (apart_without x ys b) others in
    omega (arith, rest, length_without x ys b (h x (inl refl)))

held_among : (h : List ResNo) (r : ResNo) → holds h r.0 ≡ true → Among r h
held_among [] r e = absurd (cc)
held_among (x ∷ h) r e = elim (cases_Bool (x.0 == r.0)) [
  | inl same ↦ inl (ap res_no (sym (eqb-true x.0 r.0 same)))
  | inr other ↦ inr (held_among h r (sym (ap (λ (b : Bool). b || holds h r.0) other) ∙ e))
]

-- a stack lacks one of these, or has them all
find_free : (ts h : List ResNo) → ((r : ResNo) × Among r ts × (holds h r.0 ≡ false)) ⊎ ((r : ResNo) → Among r ts → holds h r.0 ≡ true)
find_free [] h = inr (λ r m. absurd m)
find_free (t ∷ ts) h = elim (cases_Bool (holds h t.0)) [
  | inl held ↦ elim (find_free ts h) [
    | inl found ↦ inl (found.0, inr found.1, found.2)
    | inr all ↦ inr (λ r m. elim m [
      | inl same ↦ subst (λ (q : ResNo). holds h q.0 ≡ true) (sym same) held
      | inr later ↦ all r later
    ])
  ]
  | inr free ↦ inl (t, inl refl, free)
]

module _ (app : App) (h : List ResNo) (stack : IsStack app h) where
  abbrev these : List ResNo
  these = resources_in (takable_resources app)

  stack_apart : Apart h
  stack_apart = apart_distinct same_resource resource_itself h stack.out_of.distinct

  each_takable : (r : ResNo) → Among r h → Among r these
  each_takable r m =
      let known = recursion_from_All (λ (q : ResNo). q.0 < length app.resources) h stack.out_of.known in
      let free = recursion_from_All (λ (q : ResNo). IsTrue (not (is_internal app.resources q.0))) h stack.takable in
      contained_among these r
      (takable_known app r (among_each (λ (q : ResNo). q.0 < length app.resources) h known r m) (among_each (λ (q : ResNo). IsTrue (not (is_internal app.resources q.0))) h free r m))

  pub few_on_stack : length h ≤ takable_count app
  few_on_stack =
      let few : length h ≤ length these = few_apart h these stack_apart (apart_resources (takable_resources app)) each_takable in
      omega (arith, few, takable_counted app)

  pub free_resource : length h < takable_count app → (r : ResNo) × IsTakable app r × (holds h r.0 ≡ false)
  free_resource less = elim (find_free these h) [
    | inl found ↦ (found.0, known_takable app found.0 (among_contained these found.0 found.1), found.2)
    | inr all ↦
        (let most : length these ≤ length h = few_apart these h (apart_resources (takable_resources app)) stack_apart (λ r m. held_among h r (all r m)) in
        absurd (omega (arith, most, less, takable_counted app)))
  ]
