-- The ceilings of a system's resources reach the tasks and the ISRs that name them.
use Rattle.std.proofs.Common.{◌≡◌, ℕ, suc, ◌+◌, ◌*◌, ◌<◌, ◌≤◌, List, [], ◌∷◌, length, get_or, map, Bool, true, false, refl, sym, ap, ◌∙◌, subst, arith, Some, None, IfSome}
use Rattle.std.specs.{Prelude.{⊤, ◌&&◌, ◌||◌, ◌==◌, if◌then◌else◌, not, codes, filter, slice_get, slice_index_or, Option}, List.{AllByRecursion, list_any}, Str.{bytes_eq}}
use Rattle.std.proofs.lemmas.{Bool.{and_parts, false≢true, or_right, Decides.{nat_tests}}, Cmp.{nat_list_eq_equiv}, Slice.Eq.{bytes_eq-Decides}, List.Elements.{All-from_recursion}, Option.{get_or_from_slice_get, slice_get_within}}
use Rattle.osek_values.{specs.{declared.numbers.ResNo.{ResNo}, Numbers.{res_no}}, proofs.Lists.{each_append, each_map}}
use Rattle.oil_system.specs.declared.{objects.Resource.{Resource}}
use Rattle.osek_standard.specs.Validity.{no_resource}
use Rattle.oil_tree.specs.{declared.tree.{Attr.{Attr}, Object.{Object}}}
use Rattle.oil_model.specs.{declared.objects.Category.TheVariants.{Two}, LookUp.{is_named, word_of}, Objects.{has_scheduler, is_called, is_isr, is_kind, is_ordinary, objects_of, priority}}
use Rattle.oil_model.specs.Systems.{above_all, above_isrs, ceiling, first_of, interrupt_ceiling, internal, internal_by, internal_from, is_naming, names_resource, resource, resources, scheduler, top_ceiling}
use Rattle.oil_model.proofs.Clean.{all_filtered, all_weaker, at_passing}

-- ---- ceilings

each_task_below : (tasks : List Object) → AllByRecursion (λ (o : Object). 2 * priority o < above_all tasks) tasks
each_task_below [] = tt
each_task_below (x ∷ tasks) = (omega arith, all_weaker _ _ tasks (λ o h. omega (arith, h)) (each_task_below tasks))

each_isr_below : (isrs : List Object) → AllByRecursion (λ (o : Object). priority o < above_isrs isrs) isrs
each_isr_below [] = tt
each_isr_below (x ∷ isrs) = (omega arith, all_weaker _ _ isrs (λ o h. omega (arith, h)) (each_isr_below isrs))

-- ---- the resources of a system

-- a resource reaches a task or an ISR
abbrev pub ReachesTask : Object → Resource → Type 0
ReachesTask o x = names_resource x.name o ≡ true → 2 * priority o ≤ x.ceiling

abbrev pub ReachesIsr : Object → Resource → Type 0
ReachesIsr o x = names_resource x.name o ≡ true → priority o < x.interrupt_ceiling

module _ (objects : List Object) where
  abbrev pub tasks_of : List Object
  tasks_of = objects_of (codes "TASK") objects

  abbrev pub isrs_of : List Object
  isrs_of = filter (is_isr Two) objects

  abbrev ordinary : List Object
  ordinary = filter (is_ordinary (has_scheduler objects)) objects

  -- a fact of each resource: of the ordinary ones, and of RES_SCHEDULER where it exists
  scheduler_is : (P : Resource → Type 0) (exists : Bool) → (exists ≡ true → P (scheduler tasks_of))
      → AllByRecursion P (if exists then scheduler tasks_of ∷ [] else [])
  scheduler_is P true h = (h refl, tt)
  scheduler_is P false h = tt

  each_resource : (P : Resource → Type 0) → AllByRecursion (λ (q : Object). P (resource tasks_of isrs_of q)) ordinary
      → (has_scheduler objects ≡ true → P (scheduler tasks_of)) → AllByRecursion P (resources objects)
  each_resource P h g =
      each_append P (map (resource tasks_of isrs_of) ordinary) _ (each_map P (resource tasks_of isrs_of) ordinary h) (scheduler_is P (has_scheduler objects) g)

  any_ordinary : (P : Object → Type 0) → ((q : Object) → P q) → (xs : List Object) → AllByRecursion P xs
  any_ordinary P h [] = tt
  any_ordinary P h (q ∷ xs) = (h q, any_ordinary P h xs)

  -- one of the tasks
  module _ (o : Object) (t : ℕ) (at : slice_get tasks_of t ≡ Some o) where
    within : t < length tasks_of
    within = slice_get_within tasks_of t o at

    read : get_or tasks_of t o ≡ o
    read = get_or_from_slice_get tasks_of t o o at

    pub tasks_below : 2 * priority o < above_all tasks_of
    tasks_below = subst (λ (x : Object). 2 * priority x < above_all tasks_of) read (All-from_recursion _ _ (each_task_below tasks_of) t o within)

    named_below : (n : List ℕ) → names_resource n o ≡ true → 2 * priority o < ceiling n tasks_of
    named_below n e =
        at_passing (λ (x : Object). 2 * priority x < above_all (filter (names_resource n) tasks_of)) (names_resource n) tasks_of t o
        (each_task_below (filter (names_resource n) tasks_of)) within (sym read) e

    reached_by : (none : Bool) (n : List ℕ) → names_resource n o ≡ true → 2 * priority o ≤ (if none then ceiling n tasks_of else top_ceiling tasks_of)
    reached_by true n e = omega (arith, named_below n e)
    reached_by false n e = omega (arith, tasks_below)

    pub task_reached : AllByRecursion (ReachesTask o) (resources objects)
    task_reached =
        each_resource (ReachesTask o)
        (any_ordinary _ (λ q. λ e. reached_by (interrupt_ceiling q.name isrs_of == 0) q.name e) ordinary)
        (λ exists. λ e. omega (arith, tasks_below))

  -- one of the category 2 ISRs, which doesn't name RES_SCHEDULER where that exists
  module _ (o : Object) (i : ℕ) (at : slice_get isrs_of i ≡ Some o)
      (barred : has_scheduler objects ≡ true → names_resource (codes "RES_SCHEDULER") o ≡ false) where
    isr_named_below : (n : List ℕ) → names_resource n o ≡ true → priority o < interrupt_ceiling n isrs_of
    isr_named_below n e =
        at_passing (λ (x : Object). priority x < above_isrs (filter (names_resource n) isrs_of)) (names_resource n) isrs_of i o
        (each_isr_below (filter (names_resource n) isrs_of)) (slice_get_within isrs_of i o at) (sym (get_or_from_slice_get isrs_of i o o at)) e

    pub isr_reached : AllByRecursion (ReachesIsr o) (resources objects)
    isr_reached =
        each_resource (ReachesIsr o)
        (any_ordinary _ (λ q. λ e. isr_named_below q.name e) ordinary)
        (λ exists. λ e. absurd (false≢true (sym (barred exists) ∙ e)))

  -- a resource that an ISR names reaches every task
  beside_all : (n : ℕ) (name : List ℕ) (none : Bool) → (n == 0) ≡ none → 0 < n
      → above_all tasks_of ≤ (if none then ceiling name tasks_of else top_ceiling tasks_of)
  beside_all n name true e some = absurd (let zero : n ≡ 0 = grind (arith, nat_tests) in omega (arith, zero, some))
  beside_all n name false e some = omega arith

  pub tops : AllByRecursion (λ (x : Resource). 0 < x.interrupt_ceiling → above_all tasks_of ≤ x.ceiling) (resources objects)
  tops =
      each_resource (λ (x : Resource). 0 < x.interrupt_ceiling → above_all tasks_of ≤ x.ceiling)
      (any_ordinary _ (λ q. λ some. beside_all (interrupt_ceiling q.name isrs_of) q.name (interrupt_ceiling q.name isrs_of == 0) refl some) ordinary)
      (λ exists. λ some. absurd (omega (arith, some)))

  -- RES_SCHEDULER reaches every task
  pub scheduler_reaches : has_scheduler objects ≡ true
      → AllByRecursion (λ (x : Resource). x.name ≡ codes "RES_SCHEDULER" → above_all tasks_of ≤ x.ceiling) (resources objects)
  scheduler_reaches exists =
      each_resource (λ (x : Resource). x.name ≡ codes "RES_SCHEDULER" → above_all tasks_of ≤ x.ceiling)
      (all_filtered (λ (q : Object). q.name ≡ codes "RES_SCHEDULER" → above_all tasks_of ≤ (resource tasks_of isrs_of q).ceiling) (λ (q : Object). ⊤)
      (is_ordinary (has_scheduler objects)) objects
      (λ q t some e. absurd (not_called q t e)) (any_ordinary _ (λ q. tt) objects))
      (λ _. λ e. omega arith)
    where
      not_called : (q : Object) → is_ordinary (has_scheduler objects) q ≡ true → q.name ≡ codes "RES_SCHEDULER" → ⊥
      not_called q t e =
          let called : is_called (codes "RES_SCHEDULER") q ≡ true = (bytes_eq-Decides q.name (codes "RES_SCHEDULER")).1 e in
          let both : (has_scheduler objects && is_called (codes "RES_SCHEDULER") q) ≡ true = λ i. exists i && called i in
          false≢true (sym (ap not both) ∙ (and_parts (is_kind (codes "RESOURCE") q) _ t).1)

-- ---- the INTERNAL resource of a task

module _ (P : Resource → Type 0) where
  -- what is so of each resource of a name is so of the INTERNAL one that is found under it
  record IsFound (k : ℕ) (rs : List Resource) (r : ResNo) : Type 0 where
    place : ℕ
    number : r.0 ≡ k + place
    is : P (slice_index_or rs place no_resource)

  found_or_later : (b : Bool) (k : ℕ) (later : Option ResNo) (Q : ResNo → Type 0) → (b ≡ true → Q (res_no k)) → IfSome later Q
      → IfSome (if b then Some (res_no k) else later) Q
  found_or_later true k later Q h g = h refl
  found_or_later false k later Q h g = g

  one_behind : (k : ℕ) (x : Resource) (rs : List Resource) (o : Option ResNo) → IfSome o (IsFound (k + 1) rs) → IfSome o (IsFound k (x ∷ rs))
  one_behind k x rs None h = h
  one_behind k x rs (Some r) h = record { place = suc h.place; number = omega (arith, h.number); is = h.is }

  found_from : (k : ℕ) (n : List ℕ) (rs : List Resource) → AllByRecursion (λ (x : Resource). bytes_eq x.name n ≡ true → P x) rs
      → IfSome (internal_from k n rs) (IsFound k rs)
  found_from k n [] h = tt
  found_from k n (x ∷ rs) h =
      found_or_later (x.internal && bytes_eq x.name n) k (internal_from (k + 1) n rs) (IsFound k (x ∷ rs))
      (λ t. record { place = 0; number = omega arith; is = h.0 (and_parts x.internal (bytes_eq x.name n) t).1 })
      (one_behind k x rs (internal_from (k + 1) n rs) (found_from (k + 1) n rs h.1))

  module _ (rs : List Resource) where
    abbrev IsFoundIn : ResNo → Type 0
    IsFoundIn r = P (slice_index_or rs r.0 no_resource)

    at_number : (o : Option ResNo) → IfSome o (IsFound 0 rs) → IfSome o IsFoundIn
    at_number None h = tt
    at_number (Some r) h = let same : h.place ≡ r.0 = omega (arith, h.number) in subst (λ (i : ℕ). P (slice_index_or rs i no_resource)) same h.is

    first_found : (o later : Option ResNo) → IfSome o IsFoundIn → IfSome later IsFoundIn → IfSome (first_of o later) IsFoundIn
    first_found (Some r) later h g = h
    first_found None later h g = g

    abbrev IsNamedBy : List Attr → Type 0
    IsNamedBy attrs = AllByRecursion (λ (x : Resource). list_any (is_naming x.name) attrs ≡ true → P x) rs

    found_by : (a : Attr) (b : Bool) → is_named (codes "RESOURCE") a ≡ b → AllByRecursion (λ (x : Resource). is_naming x.name a ≡ true → P x) rs
        → IfSome (if b then internal_from 0 (word_of a.value) rs else None) IsFoundIn
    found_by a false e h = tt
    found_by a true e h =
        at_number (internal_from 0 (word_of a.value) rs) (found_from 0 (word_of a.value) rs (all_weaker _ _ rs
        (λ x g. λ same. g ((λ i. e i && nat_list_eq_equiv.symm (word_of a.value) x.name i) ∙ same)) h))

    pub internal_found : (attrs : List Attr) → IsNamedBy attrs → IfSome (internal rs attrs) IsFoundIn
    internal_found [] h = tt
    internal_found (a ∷ attrs) h =
        first_found (internal_by rs a) (internal rs attrs)
        (found_by a (is_named (codes "RESOURCE") a) refl (all_weaker _ _ rs (λ x g. λ e. g (λ i. e i || list_any (is_naming x.name) attrs)) h))
        (internal_found attrs (all_weaker _ _ rs (λ x g. λ e. g (or_right (is_naming x.name a) (list_any (is_naming x.name) attrs) e)) h))
