-- Stacks of distinct resources: with one more on top, without the top, and that they are no longer than there are
-- resources.
use Rattle.std.proofs.Common.{◌≡◌, ℕ, suc, ◌<◌, ◌≤◌, Bool, true, false, ◌||◌, List, [], ◌∷◌, ◌++◌, zero, take, length, length-append, sym, ◌∙◌, ap, inl, inr, arith, nat_eq, map}
use Rattle.std.proofs.Common.{subst, not, IsTrue}
use Rattle.std.proofs.Math.ListN.{length-map}
use Rattle.std.proofs.lemmas.{Bool.{Decides.{nat_tests}, cases_Bool, or_parts, true≢false}, List.{Elements.{All-nil, recursion_from_All, All-from_recursion}, Folds.{list_any_at}}}
use Rattle.std.proofs.lemmas.Map.Steps.{length-le_from_distinct_below}
use Rattle.std.specs.List.{IsDistinct, AllByRecursion, list_any}
use Rattle.osek_values.specs.declared.{limits.TheConstants.{MAX_RESOURCES}, numbers.ResNo.{ResNo}}
use Rattle.osek_standard.specs.declared.{app.App.{App}, state.{State.{State}, Source.{Source}}}
use Rattle.osek_standard.specs.declared.task_state.{TaskState.{TaskState}, Standing.{Standing}, Activity.{Activity, TheVariants.{Suspended, Live, Waiting}}}
use Rattle.osek_standard.specs.{TaskStates.{holds, held, held_in, suspended}, States.{task_state, is_taken, source_state, held_by_source}}
use Rattle.osek_standard.specs.{Well.{Well, IsActivityOf, IsStack, IsStackOutOf, same_resource, IsSourceState}, Apps.{source_count}, Validity.{is_internal}}
use Rattle.osek_standard.specs.declared.state.Source.TheVariants as source

below_each : (n : ℕ) (h : List ℕ) → AllByRecursion (λ x. x < n) h → (q : ℕ) → list_any (nat_eq q) h ≡ true → q < n
below_each n [] all q e = absurd (cc)
below_each n (x ∷ xs) all q e = elim (cases_Bool (nat_eq q x)) [
  | inl f ↦ (let same : q ≡ x = grind (arith, nat_tests) in omega (arith, all.0))
  | inr f ↦ below_each n xs all.1 q (sym (ap (λ (b : Bool). b || list_any (nat_eq q) xs) f) ∙ e)
]

-- the numbers of the resources of a stack
abbrev numbers : List ResNo → List ℕ
numbers h = map (λ q. q.0) h

numbers_each : (P : ℕ → Type 0) (h : List ResNo) → AllByRecursion (λ (q : ResNo). P q.0) h → AllByRecursion P (numbers h)
numbers_each P [] all = tt
numbers_each P (x ∷ xs) all = (all.0, numbers_each P xs all.1)

numbers_distinct : (h : List ResNo) → IsDistinct same_resource h → IsDistinct nat_eq (numbers h)
unfolding IsDistinct
numbers_distinct [] d = tt
numbers_distinct (x ∷ xs) d = (numbers_each (λ y. nat_eq x.0 y ≡ false) xs d.0, numbers_distinct xs d.1)

-- a stack is no longer than there are resources
pub stack_few : (n : ℕ) (h : List ResNo) → IsStackOutOf n h → length h ≤ n
stack_few n h stack =
    let each : AllByRecursion (λ x. x < n) (numbers h) = numbers_each (λ x. x < n) h (recursion_from_All _ h stack.known) in
    let few = length-le_from_distinct_below (numbers h) n (numbers_distinct h stack.distinct) (below_each n (numbers h) each) in
    omega (arith, few, length-map h (λ (q : ResNo). q.0))

append_each : (P : ResNo → Type 0) (h : List ResNo) (r : ResNo) → AllByRecursion P h → P r → AllByRecursion P (h ++ r ∷ [])
append_each P [] r all p = (p, tt)
append_each P (x ∷ xs) r all p = (all.0, append_each P xs r all.1 p)

take_each : (P : ResNo → Type 0) (n : ℕ) (h : List ResNo) → AllByRecursion P h → AllByRecursion P (take n h)
take_each P zero h all = tt
take_each P (suc n) [] all = tt
take_each P (suc n) (x ∷ xs) all = (all.0, take_each P n xs all.1)

append_distinct : (h : List ResNo) (r : ResNo) → IsDistinct same_resource h → holds h r.0 ≡ false → IsDistinct same_resource (h ++ r ∷ [])
unfolding IsDistinct
append_distinct [] r d e = (tt, tt)
append_distinct (x ∷ xs) r d e =
    let p = or_parts (nat_eq x.0 r.0) (holds xs r.0) e in
    (append_each (λ (y : ResNo). nat_eq x.0 y.0 ≡ false) xs r d.0 p.0, append_distinct xs r d.1 p.1)

take_distinct : (n : ℕ) (h : List ResNo) → IsDistinct same_resource h → IsDistinct same_resource (take n h)
unfolding IsDistinct
take_distinct zero h d = tt
take_distinct (suc n) [] d = tt
take_distinct (suc n) (x ∷ xs) d = (take_each (λ (y : ResNo). nat_eq x.0 y.0 ≡ false) n xs d.0, take_distinct n xs d.1)

-- it is in the table, and isn't INTERNAL
abbrev pub IsTakable : App → ResNo → Type 0
IsTakable app r = (r.0 < length app.resources) × IsTrue (not (is_internal app.resources r.0))

-- a stack stays one with a resource that it does not hold on top, and without its top
pub push_stack : (app : App) (h : List ResNo) (r : ResNo) → IsStack app h → IsTakable app r → holds h r.0 ≡ false → IsStack app (h ++ r ∷ [])
push_stack app h r stack takable e = record {
  out_of = record {
    distinct = append_distinct h r stack.out_of.distinct e;
    known = All-from_recursion _ (h ++ r ∷ []) (append_each (λ (q : ResNo). q.0 < length app.resources) h r (recursion_from_All _ h stack.out_of.known) takable.0);
  };
  takable = All-from_recursion _ (h ++ r ∷ []) (append_each (λ (q : ResNo). IsTrue (not (is_internal app.resources q.0))) h r (recursion_from_All _ h stack.takable) takable.1);
}

pub pop_stack : (app : App) (n : ℕ) (h : List ResNo) → IsStack app h → IsStack app (take n h)
pop_stack app n h stack = record {
  out_of = record {
    distinct = take_distinct n h stack.out_of.distinct;
    known = All-from_recursion _ (take n h) (take_each (λ (q : ResNo). q.0 < length app.resources) n h (recursion_from_All _ h stack.out_of.known));
  };
  takable = All-from_recursion _ (take n h) (take_each (λ (q : ResNo). IsTrue (not (is_internal app.resources q.0))) n h (recursion_from_All _ h stack.takable));
}

pub no_stack : (app : App) → IsStack app []
unfolding IsDistinct
no_stack app = record { out_of = record { distinct = tt; known = All-nil _ }; takable = All-nil _ }

-- what a task in a right state holds
pub stack_in : (app : App) (t : ℕ) (a : Activity) → IsActivityOf app t a → IsStack app (held_in a)
stack_in app t Suspended h = no_stack app
stack_in app t (Live x) h = h.stack
stack_in app t (Waiting b) h = no_stack app

-- what a task of a well-formed state holds
pub held_stack : (app : App) (s : State) (t : ℕ) → Well app s → t < length app.tasks → IsStack app (held (task_state s t))
held_stack app s t w known = stack_in app t (task_state s t).activity (w.tasks t known).activity

source_stack : (app : App) (k : ℕ) (x : Source) → IsSourceState app k x → IsStack app (held_by_source x)
source_stack app k source.Out h = no_stack app
source_stack app k (source.In x) h = h.stack

-- what a routine holds
pub routine_stack : (app : App) (s : State) (k : ℕ) → IsSourceState app k (source_state s k) → IsStack app (held_by_source (source_state s k))
routine_stack app s k right = source_stack app k (source_state s k) right

module _ (s : State) (r : ℕ) (free : is_taken s r ≡ false) where
  free_of_both : (list_any (λ x. holds (held x) r) s.tasks ≡ false) × (list_any (λ x. holds (held_by_source x) r) s.sources ≡ false)
  free_of_both = or_parts (list_any (λ x. holds (held x) r) s.tasks) (list_any (λ x. holds (held_by_source x) r) s.sources) free

  -- a resource that nobody holds is on no task's stack
  pub not_taken : (t : ℕ) → t < length s.tasks → holds (held (task_state s t)) r ≡ false
  not_taken t known = elim (cases_Bool (holds (held (task_state s t)) r)) [
    | inl f ↦ (let taken = list_any_at (λ x. holds (held x) r) s.tasks t suspended known f in absurd (true≢false (sym taken ∙ free_of_both.0)))
    | inr f ↦ f
  ]

  -- and on no routine's
  pub not_taken_by_routine : (k : ℕ) → k < length s.sources → holds (held_by_source (source_state s k)) r ≡ false
  not_taken_by_routine k known = elim (cases_Bool (holds (held_by_source (source_state s k)) r)) [
    | inl f ↦ (let taken = list_any_at (λ x. holds (held_by_source x) r) s.sources k source.Out known f in absurd (true≢false (sym taken ∙ free_of_both.1)))
    | inr f ↦ f
  ]

-- a stack that does not hold a resource has room for it
pub room_on : (app : App) (h : List ResNo) (r : ResNo) → IsStack app h → IsTakable app r → holds h r.0 ≡ false → length h < MAX_RESOURCES
room_on app h r stack takable e =
    let few = stack_few (length app.resources) (h ++ r ∷ []) (push_stack app h r stack takable e).out_of in
    let size = length-append h (r ∷ []) in
    omega (arith, few, size, app.valid.few_resources)

-- where nobody has a resource, a Live task's stack has room for it
pub room_at : (app : App) (s : State) → Well app s → (t : ℕ) (r : ResNo) → t < length app.tasks → IsTakable app r → is_taken s r.0 ≡ false →
    (x : TaskState) → task_state s t ≡ x → (y : Standing) → x.activity ≡ Live y → length y.held < MAX_RESOURCES
room_at app s w t r known takable free x is y e =
    let here : t < length s.tasks = omega (arith, w.tasks_len) in
    let same : held (task_state s t) ≡ y.held = ap (λ (z : TaskState). held z) is ∙ ap (λ (a : Activity). held_in a) e in
    subst (λ (h : List ResNo). length h < MAX_RESOURCES) same (room_on app (held (task_state s t)) r (held_stack app s t w known) takable (not_taken s r.0 free t here))

-- and so has a routine's
pub room_at_routine : (app : App) (s : State) → Well app s → (k : ℕ) (r : ResNo) → k < source_count app → IsTakable app r → is_taken s r.0 ≡ false
    → IsSourceState app k (source_state s k) →
    length (held_by_source (source_state s k)) < MAX_RESOURCES
room_at_routine app s w k r known takable free right =
    let here : k < length s.sources = omega (arith, w.sources_len, known) in
    room_on app (held_by_source (source_state s k)) r (routine_stack app s k right) takable (not_taken_by_routine s r.0 free k here)
