-- A routine takes only resources whose interrupt ceiling is at least its own level.
use Rattle.std.proofs.Common.{◌≡◌, ℕ, ◌<◌, Bool, true, false, ◌&&◌, ◌||◌, List, [], ◌∷◌, refl, sym, ◌∙◌, subst, inl, inr}
use Rattle.std.specs.Prelude.{Some, if◌then◌else◌, codes, filter, slice_get}
use Rattle.std.specs.{List.{AllByRecursion, list_any}, Str.{bytes_eq}}
use Rattle.std.proofs.lemmas.Bool.{false≢true, or_cases, or_left, or_right}
use Rattle.std.proofs.lemmas.{Cmp.{nat_list_eq_equiv}, List.{Elements.{All-from_recursion}, Folds.{list_any-append}}}
use Rattle.std.proofs.lemmas.{Option.{get_or_from_slice_get, slice_get_within}, Slice.Eq.{bytes_eq-Decides}}
use Rattle.osek_values.specs.{declared.{refusal.{OilRule.TheVariants.{O18}}}}
use Rattle.oil_system.specs.declared.{objects.Resource.{Resource}}
use Rattle.oil_tree.specs.{AttrLists.{attr_list}, declared.tree.{Attr.{Attr}, Object.{Object}, Tree.{Tree}, Value.{Value, TheVariants.{Word}}}}
use Rattle.oil_model.specs.{Faults.{HasNoFault as IsClean}, LookUp.{attr_line, is_named, word_of}, Objects.{has_scheduler, priority}}
use Rattle.oil_model.specs.Rules.{barred_resources, barred_resources_of, is_internal_name, names_barred}
use Rattle.oil_model.specs.Systems.{is_naming, names_in, names_resource, resource_names, resource_names_in, resources}
use Rattle.oil_model.proofs.Clean.{all_weaker, each_empty, map_empty, no_line, none_pass}
use Rattle.text_guarantees.proofs.SystemCeilings.{isr_reached, isrs_of}

-- ---- what an ISR names

-- one attribute
named_by : (n : List ℕ) (b : Bool) (v : Value) → list_any (bytes_eq n) (if b then names_in v else []) ≡ true → (b && bytes_eq (word_of v) n) ≡ true
named_by n true (Word w) e = elim (or_cases (bytes_eq n w) false e) [
  | inl h ↦ nat_list_eq_equiv.symm w n ∙ h
  | inr h ↦ absurd (false≢true h)
]
named_by n true _ e = absurd (false≢true e)
named_by n false v e = absurd (false≢true e)

named_in : (n : List ℕ) (attrs : List Attr) → list_any (bytes_eq n) (resource_names attrs) ≡ true → list_any (is_naming n) attrs ≡ true
named_in n [] e = absurd (false≢true e)
named_in n (a ∷ attrs) e = elim (or_cases _ _ (sym (list_any-append (bytes_eq n) (resource_names_in a) (resource_names attrs)) ∙ e)) [
  | inl h ↦ or_left (is_naming n a) (list_any (is_naming n) attrs) (named_by n (is_named (codes "RESOURCE") a) a.value h)
  | inr h ↦ or_right (is_naming n a) (list_any (is_naming n) attrs) (named_in n attrs h)
]

-- it doesn't name RES_SCHEDULER where that exists
both_or : (b internal exists same : Bool) → exists ≡ true → (b && (internal || (exists && same))) ≡ false → (b && same) ≡ false
both_or false internal exists same h e = refl
both_or true true exists same h e = absurd (false≢true (sym e))
both_or true false true same h e = e
both_or true false false same h e = absurd (false≢true h)

module _ (objects : List Object) (exists : has_scheduler objects ≡ true) where
  not_barred : (attrs : List Attr) → AllByRecursion (λ (a : Attr). names_barred (has_scheduler objects) objects a ≡ false) attrs
      → list_any (is_naming (codes "RES_SCHEDULER")) attrs ≡ false
  not_barred [] h = refl
  not_barred (a ∷ attrs) h =
      let first : is_naming (codes "RES_SCHEDULER") a ≡ false = both_or (is_named (codes "RESOURCE") a) (is_internal_name objects (word_of a.value))
      (has_scheduler objects) (bytes_eq (word_of a.value) (codes "RES_SCHEDULER")) exists h.0 in
      λ i. first i || not_barred attrs h.1 i

isr_not_barred : (t : Tree) → IsClean t → (o : Object) (i : ℕ) → slice_get (isrs_of t.objects) i ≡ Some o → has_scheduler t.objects ≡ true
    → names_resource (codes "RES_SCHEDULER") o ≡ false
isr_not_barred t clean o i at exists =
    let scheduler = has_scheduler t.objects in
    let each = each_empty (barred_resources_of scheduler t.objects) (isrs_of t.objects) (no_line (barred_resources t.objects) (λ l h. clean O18 l h)) in
    let here = subst (λ (x : Object). barred_resources_of scheduler t.objects x ≡ []) (get_or_from_slice_get (isrs_of t.objects) i o o at)
    (All-from_recursion _ _ each i o (slice_get_within (isrs_of t.objects) i o at)) in
    not_barred t.objects exists (attr_list o.attrs)
    (none_pass (names_barred scheduler t.objects) (attr_list o.attrs)
    (map_empty attr_line (filter (names_barred scheduler t.objects) (attr_list o.attrs)) here))

-- so the interrupt ceiling of each resource that it names is above its priority
pub named_above : (t : Tree) → IsClean t → (o : Object) (i : ℕ) → slice_get (isrs_of t.objects) i ≡ Some o → (n : List ℕ)
    → list_any (bytes_eq n) (resource_names (attr_list o.attrs)) ≡ true
    → AllByRecursion (λ (x : Resource). bytes_eq n x.name ≡ true → priority o < x.interrupt_ceiling) (resources t.objects)
named_above t clean o i at n named =
    all_weaker _ _ (resources t.objects)
    (λ x h same.
    h (subst (λ (m : List ℕ). list_any (is_naming m) (attr_list o.attrs) ≡ true) ((bytes_eq-Decides n x.name).0 same) (named_in n (attr_list o.attrs) named)))
    (isr_reached t.objects o i at (isr_not_barred t clean o i at))
