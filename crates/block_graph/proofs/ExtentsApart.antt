-- No block has two owners.
use Rattle.std.proofs.Common.{◌≡◌, ℕ, ◌+◌, ◌≤◌, List, [], ◌∷◌, ◌++◌, map, true, false, sym, ◌∙◌, subst, arith, inl, inr}
use Rattle.std.specs.{Prelude.{◌||◌, nat_lt}, List.{AllByRecursion, IsDistinct, list_any}, Str.{bytes_eq}}
use Rattle.std.proofs.lemmas.{Bool.{and_left, and_parts, and_right, cases_Bool, cond-false, cond-true, le-ltb, both_ways}, List.Sums.{sum_by-cons}, Map.Keys.{IsDistinct-cons}, Simd.{map-map}}
use Rattle.std.proofs.lemmas.Slice.Eq.{bytes_eq-Decides}
use Rattle.osek_values.proofs.Lists.{each_append, each_map, none_distinct}
use Rattle.osek_standard.specs.{declared.objects.{Counter.{Counter}, Isr.{Isr}, Task.{Task}}, Validity.{due_of, meet, owners}}
use Rattle.oil_system.specs.declared.system.{CounterObject.{CounterObject}, IsrObject.{IsrObject}, TaskObject.{TaskObject}, System.{System}}
use Rattle.oil_model.specs.Linkable.{IsLinkable}
use Rattle.oil_model.proofs.Clean.{all_weaker}
use Rattle.task_code.specs.declared.tree.{Body.{Body}, BodyKind.{BodyKind}, Code.{Code}}
use Rattle.task_code.specs.declared.tree.BodyKind.TheVariants as body_kind
use Rattle.block_graph.specs.{Apps.{counters_from, counters_of, extent, isr_with, isrs_of, task_with, tasks_of}, Blocks.{routine_size, size, source_size}, Faults.{HasNoFault}}
use Rattle.block_graph.specs.Rules.{is_code_of, is_kind}
use Rattle.block_graph.proofs.{ExtentsLists.{distinct_append, distinct_values}, ExtentsPlaces.{code_kind}}
use Rattle.block_graph.proofs.ExtentsRules.{isrs_have_code, tasks_have_code}

-- ---- blocks that end before others begin

pub apart_before : (o p : ℕ × ℕ) → o.0 + o.1 ≤ p.0 → meet o p ≡ false
apart_before o p le = and_right (nat_lt o.0 (p.0 + p.1)) (nat_lt p.0 (o.0 + o.1)) (le-ltb p.0 (o.0 + o.1) le)

pub apart_behind : (o p : ℕ × ℕ) → p.0 + p.1 ≤ o.0 → meet o p ≡ false
apart_behind o p le = and_left (nat_lt o.0 (p.0 + p.1)) (nat_lt p.0 (o.0 + o.1)) (le-ltb o.0 (p.0 + p.1) le)

-- ---- the code of two owners

-- from n on, and before what follows the bodies
abbrev IsBetween : ℕ → ℕ → ℕ × ℕ → Type 0
IsBetween n end o = (n ≤ o.0) × (o.0 + o.1 ≤ end)

later_code : (kind : BodyKind) (name : List ℕ) (first : Body) (more : List Body) → is_code_of kind name first ≡ false → list_any (is_code_of kind name) (first ∷ more) ≡ true → list_any (is_code_of kind name) more ≡ true
later_code kind name first more other e = subst (λ b. (b || list_any (is_code_of kind name) more) ≡ true) other e

pub code_between : (kind : BodyKind) (name : List ℕ) (bodies : List Body) (n : ℕ) → list_any (is_code_of kind name) bodies ≡ true → IsBetween n (n + source_size bodies) (extent kind name bodies n)
code_between kind name [] n e = absurd cc
code_between kind name (first ∷ more) n e =
    let total = sum_by-cons size first more in
    elim (cases_Bool (is_code_of kind name first)) [
      | inl here ↦
          let within : IsBetween n (n + source_size (first ∷ more)) (n, size first) = (omega arith, omega (arith, total)) in
          subst (IsBetween n (n + source_size (first ∷ more))) (sym (cond-true (is_code_of kind name first) (n, size first) (extent kind name more (n + size first)) here)) within
      | inr other ↦
          let rest = code_between kind name more (n + size first) (later_code kind name first more other e) in
          let within : IsBetween n (n + source_size (first ∷ more)) (extent kind name more (n + size first)) = (omega (arith, rest.0), omega (arith, rest.1, total)) in
          subst (IsBetween n (n + source_size (first ∷ more))) (sym (cond-false (is_code_of kind name first) (n, size first) (extent kind name more (n + size first)) other)) within
    ]

-- two owners of no common body
module _ (kind other_kind : BodyKind) (name other_name : List ℕ) (apart : (body : Body) → is_code_of kind name body ≡ true → is_code_of other_kind other_name body ≡ true → ⊥) where
  pub code_apart : (bodies : List Body) (n : ℕ) → list_any (is_code_of kind name) bodies ≡ true → list_any (is_code_of other_kind other_name) bodies ≡ true
      → meet (extent kind name bodies n) (extent other_kind other_name bodies n) ≡ false
  code_apart [] n e f = absurd cc
  code_apart (first ∷ more) n e f =
      let one = is_code_of kind name first in
      let two = is_code_of other_kind other_name first in
      let here : ℕ × ℕ = (n, size first) in
      let later_one = extent kind name more (n + size first) in
      let later_two = extent other_kind other_name more (n + size first) in
      elim (cases_Bool one) [
        | inl t ↦ elim (cases_Bool two) [
          | inl u ↦ absurd (apart first t u)
          | inr v ↦
              let rest = code_between other_kind other_name more (n + size first) (later_code other_kind other_name first more v f) in
              let gone : meet here later_two ≡ false = apart_before here later_two rest.0 in
              (λ i. meet (cond-true one here later_one t i) (cond-false two here later_two v i)) ∙ gone
        ]
        | inr g ↦ elim (cases_Bool two) [
          | inl u ↦
              let rest = code_between kind name more (n + size first) (later_code kind name first more g e) in
              let gone : meet later_one here ≡ false = apart_behind later_one here rest.0 in
              (λ i. meet (cond-false one here later_one g i) (cond-true two here later_two u i)) ∙ gone
          | inr v ↦
              (λ i. meet (cond-false one here later_one g i) (cond-false two here later_two v i))
              ∙ code_apart more (n + size first) (later_code kind name first more g e) (later_code other_kind other_name first more v f)
        ]
      ]

-- of one kind, by their names
names_apart : (kind : BodyKind) (name other : List ℕ) → bytes_eq name other ≡ false → (body : Body) → is_code_of kind name body ≡ true → is_code_of kind other body ≡ true → ⊥
names_apart kind name other e body one two =
    let first : name ≡ body.owner.name = (bytes_eq-Decides name body.owner.name).0 (and_parts (is_kind kind body.kind) _ one).1 in
    let second : other ≡ body.owner.name = (bytes_eq-Decides other body.owner.name).0 (and_parts (is_kind kind body.kind) _ two).1 in
    both_ways (bytes_eq name other) e ((bytes_eq-Decides name other).1 (first ∙ sym second))

task_or_isr : body_kind.Task ≡ body_kind.Isr → ⊥
task_or_isr e = cc

-- by their kinds
kinds_apart : (name other : List ℕ) (body : Body) → is_code_of body_kind.Task name body ≡ true → is_code_of body_kind.Isr other body ≡ true → ⊥
kinds_apart name other body one two = task_or_isr (sym (code_kind body_kind.Task name body one) ∙ code_kind body_kind.Isr other body two)

-- ---- the routines of counters

abbrev pub task_blocks : Task → ℕ × ℕ
task_blocks x = (x.first.0, x.count)

abbrev pub isr_blocks : Isr → ℕ × ℕ
isr_blocks x = (x.first.0, x.count)

abbrev pub counter_blocks : Counter → ℕ × ℕ
counter_blocks x = (x.first.0, x.count)

-- they stand from n on
pub routines_behind : (s : System) (xs : List CounterObject) (c n m : ℕ) → m ≤ n → AllByRecursion (λ (o : ℕ × ℕ). m ≤ o.0) (map counter_blocks (counters_from s xs c n))
routines_behind s [] c n m le = tt
routines_behind s (x ∷ xs) c n m le = (le, routines_behind s xs (c + 1) (n + routine_size (due_of s.alarms c)) m (omega (arith, le)))

routines_apart : (s : System) (xs : List CounterObject) (c n : ℕ) → IsDistinct meet (map counter_blocks (counters_from s xs c n))
routines_apart s [] c n = none_distinct meet
routines_apart s (x ∷ xs) c n =
    let count = routine_size (due_of s.alarms c) in
    let later = map counter_blocks (counters_from s xs (c + 1) (n + count)) in
    let none : n + count ≤ n + count = omega arith in
    IsDistinct-cons meet (n, count) later
    (all_weaker (λ (o : ℕ × ℕ). meet (n, count) o ≡ false) (λ (o : ℕ × ℕ). n + count ≤ o.0) later (λ o le. apart_before (n, count) o le) (routines_behind s xs (c + 1) (n + count) (n + count) none))
    (routines_apart s xs (c + 1) (n + count))

-- ---- all owners

module _ (s : System) (bodies : List Body) where
  abbrev pub of_task : TaskObject → ℕ × ℕ
  of_task x = extent body_kind.Task x.name bodies 0

  abbrev pub of_isr : IsrObject → ℕ × ℕ
  of_isr x = extent body_kind.Isr x.name bodies 0

  abbrev pub of_counters : List (ℕ × ℕ)
  of_counters = map counter_blocks (counters_of s bodies)

  -- the owners, by the objects of the system
  pub owners_are : owners (tasks_of s bodies) (isrs_of s bodies) (counters_of s bodies) ≡ (map of_task s.tasks ++ map of_isr s.isrs) ++ of_counters
  owners_are =
      let of_tasks : map task_blocks (tasks_of s bodies) ≡ map of_task s.tasks = map-map task_blocks (λ (x : TaskObject). task_with x (of_task x)) s.tasks in
      let of_isrs : map isr_blocks (isrs_of s bodies) ≡ map of_isr s.isrs = map-map isr_blocks (λ (x : IsrObject). isr_with x (of_isr x)) s.isrs in
      λ i. (of_tasks i ++ of_isrs i) ++ of_counters

module _ (s : System) (code : Code) (linkable : IsLinkable s) (clean : HasNoFault s code) where
  abbrev bodies : List Body
  bodies = code.bodies

  tasks_apart : IsDistinct meet (map (of_task s bodies) s.tasks)
  tasks_apart =
      distinct_values (λ (x : TaskObject). x.name) (of_task s bodies) bytes_eq meet (λ (x : TaskObject). list_any (is_code_of body_kind.Task x.name) bodies ≡ true)
      (λ x y here there differ. code_apart body_kind.Task body_kind.Task x.name y.name (names_apart body_kind.Task x.name y.name differ) bodies 0 here there)
      s.tasks (tasks_have_code s code clean) linkable.task_names.distinct

  isrs_apart : IsDistinct meet (map (of_isr s bodies) s.isrs)
  isrs_apart =
      distinct_values (λ (x : IsrObject). x.name) (of_isr s bodies) bytes_eq meet (λ (x : IsrObject). list_any (is_code_of body_kind.Isr x.name) bodies ≡ true)
      (λ x y here there differ. code_apart body_kind.Isr body_kind.Isr x.name y.name (names_apart body_kind.Isr x.name y.name differ) bodies 0 here there)
      s.isrs (isrs_have_code s code clean) linkable.isr_names.distinct

  task_from_isrs : (x : TaskObject) → list_any (is_code_of body_kind.Task x.name) bodies ≡ true → AllByRecursion (λ (p : ℕ × ℕ). meet (of_task s bodies x) p ≡ false) (map (of_isr s bodies) s.isrs)
  task_from_isrs x here =
      each_map (λ (p : ℕ × ℕ). meet (of_task s bodies x) p ≡ false) (of_isr s bodies) s.isrs
      (all_weaker (λ (y : IsrObject). meet (of_task s bodies x) (of_isr s bodies y) ≡ false) (λ (y : IsrObject). list_any (is_code_of body_kind.Isr y.name) bodies ≡ true) s.isrs
      (λ y there. code_apart body_kind.Task body_kind.Isr x.name y.name (kinds_apart x.name y.name) bodies 0 here there) (isrs_have_code s code clean))

  tasks_from_isrs : AllByRecursion (λ (o : ℕ × ℕ). AllByRecursion (λ (p : ℕ × ℕ). meet o p ≡ false) (map (of_isr s bodies) s.isrs)) (map (of_task s bodies) s.tasks)
  tasks_from_isrs =
      each_map (λ (o : ℕ × ℕ). AllByRecursion (λ (p : ℕ × ℕ). meet o p ≡ false) (map (of_isr s bodies) s.isrs)) (of_task s bodies) s.tasks
      (all_weaker (λ (x : TaskObject). AllByRecursion (λ (p : ℕ × ℕ). meet (of_task s bodies x) p ≡ false) (map (of_isr s bodies) s.isrs)) (λ (x : TaskObject). list_any (is_code_of body_kind.Task x.name) bodies ≡ true) s.tasks
      task_from_isrs (tasks_have_code s code clean))

  -- code stands before the routines
  code_before : (kind : BodyKind) (name : List ℕ) → list_any (is_code_of kind name) bodies ≡ true → AllByRecursion (λ (p : ℕ × ℕ). meet (extent kind name bodies 0) p ≡ false) (of_counters s bodies)
  code_before kind name e =
      let place = extent kind name bodies 0 in
      let within = code_between kind name bodies 0 e in
      let none : source_size bodies ≤ source_size bodies = omega arith in
      all_weaker (λ (p : ℕ × ℕ). meet place p ≡ false) (λ (p : ℕ × ℕ). source_size bodies ≤ p.0) (of_counters s bodies)
      (λ p le. apart_before place p (omega (arith, le, within.1))) (routines_behind s s.counters 0 (source_size bodies) (source_size bodies) none)

  code_from_counters : AllByRecursion (λ (o : ℕ × ℕ). AllByRecursion (λ (p : ℕ × ℕ). meet o p ≡ false) (of_counters s bodies)) (map (of_task s bodies) s.tasks ++ map (of_isr s bodies) s.isrs)
  code_from_counters =
      each_append (λ (o : ℕ × ℕ). AllByRecursion (λ (p : ℕ × ℕ). meet o p ≡ false) (of_counters s bodies)) (map (of_task s bodies) s.tasks) (map (of_isr s bodies) s.isrs)
      (each_map (λ (o : ℕ × ℕ). AllByRecursion (λ (p : ℕ × ℕ). meet o p ≡ false) (of_counters s bodies)) (of_task s bodies) s.tasks
      (all_weaker (λ (x : TaskObject). AllByRecursion (λ (p : ℕ × ℕ). meet (of_task s bodies x) p ≡ false) (of_counters s bodies)) (λ (x : TaskObject). list_any (is_code_of body_kind.Task x.name) bodies ≡ true) s.tasks
      (λ x e. code_before body_kind.Task x.name e) (tasks_have_code s code clean)))
      (each_map (λ (o : ℕ × ℕ). AllByRecursion (λ (p : ℕ × ℕ). meet o p ≡ false) (of_counters s bodies)) (of_isr s bodies) s.isrs
      (all_weaker (λ (x : IsrObject). AllByRecursion (λ (p : ℕ × ℕ). meet (of_isr s bodies x) p ≡ false) (of_counters s bodies)) (λ (x : IsrObject). list_any (is_code_of body_kind.Isr x.name) bodies ≡ true) s.isrs
      (λ x e. code_before body_kind.Isr x.name e) (isrs_have_code s code clean)))

  pub apart : IsDistinct meet (owners (tasks_of s bodies) (isrs_of s bodies) (counters_of s bodies))
  apart =
      subst (IsDistinct meet) (sym (owners_are s bodies))
      (distinct_append meet (map (of_task s bodies) s.tasks ++ map (of_isr s bodies) s.isrs) (of_counters s bodies)
      (distinct_append meet (map (of_task s bodies) s.tasks) (map (of_isr s bodies) s.isrs) tasks_apart isrs_apart tasks_from_isrs)
      (routines_apart s s.counters 0 (source_size bodies)) code_from_counters)
