-- No block is a task's and a routine's.
use Rattle.std.proofs.Common.{◌≡◌, ℕ, ◌+◌, ◌-◌, ◌<◌, ◌≤◌, Bool, true, false, ◌||◌, List, [], ◌∷◌, ◌++◌, length, map, refl, ◌∙◌, ap, subst, append_assoc, inl, inr, arith, nat_lt, get_or}
use Rattle.std.specs.List.{IsDistinct, AllByRecursion, list_any}
use Rattle.std.proofs.lemmas.{Bool.{cases_Bool, Decides.{nat_tests}}, List.Folds.{list_any-append, list_any_at}}
use Rattle.osek_values.proofs.Lists.{any_of_map}
use Rattle.osek_standard.specs.{declared.{app.App.{App}, objects.{Task.{Task}, Isr.{Isr}, Counter.{Counter}}}, Validity.{is_within, meet}}
use Rattle.osek_standard.specs.{Apps.{is_task_block, source_count, no_task, no_isr, no_counter}, Well.{IsOwn, IsOfRoutine}}

within_both : (b a m c n : ℕ) → is_within b (a, m) ≡ true → is_within b (c, n) ≡ true → meet (a, m) (c, n) ≡ true
within_both b a m c n e f = grind (arith, nat_tests)

or_true : (x y : Bool) → (x || y) ≡ true → x ≡ false → y ≡ true
or_true true y e f = absurd (cc)
or_true false y e f = e

-- where an owner meets none of these, none of these has its block
none_has : (b : ℕ) (o : ℕ × ℕ) (xs : List (ℕ × ℕ)) → is_within b o ≡ true → AllByRecursion (λ (p : ℕ × ℕ). meet o p ≡ false) xs → list_any (is_within b) xs ≡ false
none_has b o [] e all = refl
none_has b o (p ∷ xs) e all = elim (cases_Bool (is_within b p)) [
  | inl f ↦ (let both : meet o p ≡ true = within_both b o.0 o.1 p.0 p.1 e f in let apart : meet o p ≡ false = all.0 in absurd (cc (both, apart)))
  | inr f ↦ (rw f (none_has b o xs e all.1))
]

any_right : (b : ℕ) (xs ys : List (ℕ × ℕ)) → list_any (is_within b) ys ≡ true → list_any (is_within b) (xs ++ ys) ≡ true
any_right b [] ys e = e
any_right b (x ∷ xs) ys e = elim (cases_Bool (is_within b x)) [
  | inl f ↦ (rw f refl)
  | inr f ↦ (rw f (any_right b xs ys e))
]

-- among owners that are apart, none of the first and none of the rest share a block
apart_at : (b : ℕ) (xs ys : List (ℕ × ℕ)) → IsDistinct meet (xs ++ ys) → list_any (is_within b) xs ≡ true → list_any (is_within b) ys ≡ true → ⊥
unfolding IsDistinct
apart_at b [] ys d e f = absurd (cc)
apart_at b (x ∷ xs) ys d e f = elim (cases_Bool (is_within b x)) [
  | inl h ↦ (let none : list_any (is_within b) (xs ++ ys) ≡ false = none_has b x (xs ++ ys) h d.0 in
      let some : list_any (is_within b) (xs ++ ys) ≡ true = any_right b xs ys f in absurd (cc (none, some)))
  | inr h ↦ apart_at b xs ys d.1 (or_true (is_within b x) (list_any (is_within b) xs) e h) f
]

abbrev of_task : Task → ℕ × ℕ
of_task x = (x.first.0, x.count)

abbrev of_isr : Isr → ℕ × ℕ
of_isr x = (x.first.0, x.count)

abbrev of_counter : Counter → ℕ × ℕ
of_counter x = (x.first.0, x.count)

within_of : (b first count : ℕ) → (first ≤ b) × (b < first + count) → is_within b (first, count) ≡ true
within_of b first count h = let low = h.0 in let high = h.1 in grind (arith, nat_tests)

-- a task's own block is a task block
pub own_is_task_block : (app : App) (t b : ℕ) → t < length app.tasks → IsOwn app t b → is_task_block app b ≡ true
own_is_task_block app t b known own = list_any_at (λ (x : Task). is_within b (of_task x)) app.tasks t no_task known (within_of b _ _ own)

abbrev routines : App → List (ℕ × ℕ)
routines app = map of_isr app.isrs ++ map of_counter app.counters

routine_by : (app : App) (k b : ℕ) (counter : Bool) → nat_lt k (length app.counters) ≡ counter → k < source_count app → IsOfRoutine app k b → list_any (is_within b) (routines app) ≡ true
routine_by app k b true e known own =
    let below : k < length app.counters = grind (arith, nat_tests) in
    let at : is_within b (of_counter (get_or app.counters k no_counter)) ≡ true = within_of b _ _ (rw e at own) in
    any_right b (map of_isr app.isrs) (map of_counter app.counters) (any_of_map (is_within b) of_counter app.counters ∙ list_any_at (λ (x : Counter). is_within b (of_counter x)) app.counters k no_counter below at)
routine_by app k b false e known own =
    let above : length app.counters ≤ k = grind (arith, nat_tests) in
    let below : k - length app.counters < length app.isrs = omega (arith, known, above) in
    let at : is_within b (of_isr (get_or app.isrs (k - length app.counters) no_isr)) ≡ true = within_of b _ _ (rw e at own) in
    let left : list_any (is_within b) (map of_isr app.isrs) ≡ true = any_of_map (is_within b) of_isr app.isrs ∙ list_any_at (λ (x : Isr). is_within b (of_isr x)) app.isrs (k - length app.counters) no_isr below at in
    list_any-append (is_within b) (map of_isr app.isrs) (map of_counter app.counters) ∙ ap (λ (c : Bool). c || list_any (is_within b) (map of_counter app.counters)) left

-- a routine's block is no task block
pub routine_is_no_task_block : (app : App) (k b : ℕ) → k < source_count app → IsOfRoutine app k b → is_task_block app b ≡ true → ⊥
routine_is_no_task_block app k b known own task =
    apart_at b (map of_task app.tasks) (routines app)
    (subst (IsDistinct meet) (append_assoc (map of_task app.tasks) (map of_isr app.isrs) (map of_counter app.counters)) app.valid.apart)
    (any_of_map (is_within b) of_task app.tasks ∙ task)
    (routine_by app k b (nat_lt k (length app.counters)) refl known own)
