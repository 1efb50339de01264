-- How many objects there are where no object is beyond its limit.
use Rattle.std.proofs.Common.{◌≡◌, ℕ, zero, suc, ◌+◌, ◌≤◌, ⊎_elim, List, [], ◌∷◌, ◌++◌, length, map, Bool, true, false, refl, sym, subst, arith}
use Rattle.std.specs.{Prelude.{if◌then◌else◌, filter, codes, slice_get}, Str.{bytes_eq}}
use Rattle.oil_tree.specs.declared.tree.Object.{Object}
use Rattle.oil_system.specs.declared.objects.Resource.{Resource}
use Rattle.oil_model.specs.{declared.objects.Category.TheVariants.{Two}, Objects.{objects_of, name_of, has_scheduler, is_other_mode, is_ordinary, is_isr}}
use Rattle.oil_model.specs.{Rules.{found_line, first_beyond, resource_limit, beyond_limits}, Systems.{modes, number_from, number_in, names_of, resource, scheduler, resources}}
use Rattle.oil_model.proofs.{Clean.{left_empty, right_empty}, Facts.{true_or_false}}

at_most : (xs : List Object) (n : ℕ) → found_line (slice_get xs n) ≡ [] → length xs ≤ n
at_most [] n e = omega arith
at_most (x ∷ xs) zero e = absurd cc
at_most (x ∷ xs) (suc n) e = let h = at_most xs n e in omega (arith, h)

pub record IsWithinLimits (objects : List Object) : Type 0 where
  pub tasks : length (objects_of (codes "TASK") objects) ≤ 16
  pub isrs : length (filter (is_isr Two) objects) ≤ 8
  pub counters : length (objects_of (codes "COUNTER") objects) ≤ 8
  pub alarms : length (objects_of (codes "ALARM") objects) ≤ 16
  pub events : length (objects_of (codes "EVENT") objects) ≤ 32
  pub resources : length (filter (is_ordinary (has_scheduler objects)) objects) ≤ resource_limit (has_scheduler objects)
  pub modes : length (filter is_other_mode objects) ≤ 7

pub within_limits : (objects : List Object) → beyond_limits objects ≡ [] → IsWithinLimits objects
within_limits objects e =
    let a : List ℕ = first_beyond 16 (objects_of (codes "TASK") objects) in
    let b : List ℕ = first_beyond 8 (filter (is_isr Two) objects) in
    let c : List ℕ = first_beyond 8 (objects_of (codes "COUNTER") objects) in
    let d : List ℕ = first_beyond 16 (objects_of (codes "ALARM") objects) in
    let f : List ℕ = first_beyond 32 (objects_of (codes "EVENT") objects) in
    let g : List ℕ = first_beyond (resource_limit (has_scheduler objects)) (filter (is_ordinary (has_scheduler objects)) objects) in
    let h : List ℕ = first_beyond 7 (filter is_other_mode objects) in
    let e1 = right_empty a (b ++ (c ++ (d ++ (f ++ (g ++ h))))) e in
    let e2 = right_empty b (c ++ (d ++ (f ++ (g ++ h)))) e1 in
    let e3 = right_empty c (d ++ (f ++ (g ++ h))) e2 in
    let e4 = right_empty d (f ++ (g ++ h)) e3 in
    let e5 = right_empty f (g ++ h) e4 in
    record {
      tasks = at_most _ 16 (left_empty a (b ++ (c ++ (d ++ (f ++ (g ++ h))))) e);
      isrs = at_most _ 8 (left_empty b (c ++ (d ++ (f ++ (g ++ h)))) e1);
      counters = at_most _ 8 (left_empty c (d ++ (f ++ (g ++ h))) e2);
      alarms = at_most _ 16 (left_empty d (f ++ (g ++ h)) e3);
      events = at_most _ 32 (left_empty f (g ++ h) e4);
      resources = at_most _ (resource_limit (has_scheduler objects)) (left_empty g h e5);
      modes = at_most _ 7 (right_empty g h e5);
    }

pub length-map : {X Y : Type 0} (f : X → Y) (xs : List X) → length (map f xs) ≡ length xs
length-map f [] = refl
length-map f (x ∷ xs) = let h = length-map f xs in omega (arith, h)

length-append : (xs ys : List Resource) → length (xs ++ ys) ≡ length xs + length ys
length-append [] ys = omega arith
length-append (x ∷ xs) ys = let h = length-append xs ys in omega (arith, h)

few_with : (exists : Bool) (tasks isrs others : List Object) → length others ≤ resource_limit exists → length (map (resource tasks isrs) others ++ (if exists then scheduler tasks ∷ [] else [])) ≤ 8
few_with true tasks isrs others le = let a = length-append (map (resource tasks isrs) others) (scheduler tasks ∷ []) in let b = length-map (resource tasks isrs) others in omega (arith, a, b, le)
few_with false tasks isrs others le = let a = length-append (map (resource tasks isrs) others) [] in let b = length-map (resource tasks isrs) others in omega (arith, a, b, le)

pub few_resources : (objects : List Object) → beyond_limits objects ≡ [] → length (resources objects) ≤ 8
few_resources objects e = few_with (has_scheduler objects) (objects_of (codes "TASK") objects) (filter (is_isr Two) objects) (filter (is_ordinary (has_scheduler objects)) objects) (within_limits objects e).resources

pub length-names : (xs : List Object) → length (map name_of xs) ≡ length xs
length-names [] = omega arith
length-names (x ∷ xs) = let h = length-names xs in omega (arith, h)

pub few_modes : (objects : List Object) → beyond_limits objects ≡ [] → length (modes objects) ≤ 8
few_modes objects e =
    let le = (within_limits objects e).modes in
    let same = length-names (filter is_other_mode objects) in
    omega (arith, le, same)

number_below : (k : ℕ) (n : List ℕ) (names : List (List ℕ)) → number_from k n names ≤ k + length names
number_below k n [] = omega arith
number_below k n (m ∷ names) =
    ⊎_elim
    (λ t. subst (λ (b : Bool). (if b then k else number_from (k + 1) n names) ≤ k + length (m ∷ names)) (sym t) (omega arith))
    (λ f. subst (λ (b : Bool). (if b then k else number_from (k + 1) n names) ≤ k + length (m ∷ names)) (sym f) (let h = number_below (k + 1) n names in omega (arith, h)))
    (true_or_false (bytes_eq m n))

pub task_number : (objects : List Object) (n : List ℕ) → beyond_limits objects ≡ [] → number_in (names_of (codes "TASK") objects) n ≤ 255
task_number objects n e =
    let le = (within_limits objects e).tasks in
    let same = length-names (objects_of (codes "TASK") objects) in
    let h = number_below 0 n (names_of (codes "TASK") objects) in
    omega (arith, le, same, h)

pub counter_number : (objects : List Object) (n : List ℕ) → beyond_limits objects ≡ [] → number_in (names_of (codes "COUNTER") objects) n ≤ 255
counter_number objects n e =
    let le = (within_limits objects e).counters in
    let same = length-names (objects_of (codes "COUNTER") objects) in
    let h = number_below 0 n (names_of (codes "COUNTER") objects) in
    omega (arith, le, same, h)
