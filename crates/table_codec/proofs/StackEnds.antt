-- A stack goes on to any size up to the number of resources that may be taken.
use Rattle.std.proofs.Common.{◌≡◌, ℕ, zero, suc, ◌+◌, ◌-◌, ◌<◌, ◌≤◌, Bool, not, ◌||◌, false, IsTrue, List, [], ◌∷◌, ◌++◌, length, take, refl, sym, ap, subst, ◌∙◌, arith, append_assoc, append-nil, length-append}
use Rattle.std.specs.List.{IsDistinct, AllByRecursion}
use Rattle.std.proofs.{Math.Seq.{take-append-add}, lemmas.List.Elements.{recursion_from_All}}
use Rattle.osek_values.specs.declared.numbers.ResNo.{ResNo}
use Rattle.osek_standard.specs.{declared.app.App.{App}, Counts.{takable_count}, TaskStates.{holds}, Validity.{is_internal}, Well.{IsStack, same_resource}}
use Rattle.osek_standard.proofs.StackLaws.{IsTakable, no_stack, pop_stack, push_stack}
use Rattle.abstract_state.proofs.TakableStacks.{free_resource}

-- a longer stack
pub record GoesOn (app : App) (h : List ResNo) (size : ℕ) : Type 0 where
  pub more : List ResNo
  pub stack : IsStack app (h ++ more)
  pub size_is : length (h ++ more) ≡ size

goes_by : (app : App) (k : ℕ) (h : List ResNo) (size : ℕ) → IsStack app h → length h + k ≡ size → size ≤ takable_count app → GoesOn app h size
goes_by app zero h size stack is few = record {
  more = [];
  stack = subst (IsStack app) (sym (append-nil h)) stack;
  size_is = ap (λ (l : List ResNo). length l) (append-nil h) ∙ omega (arith, is);
}
goes_by app (suc k) h size stack is few =
    let free = free_resource app h stack (omega (arith, is, few)) in
    let longer = push_stack app h free.0 stack free.1 free.2 in
    let rest = goes_by app k (h ++ free.0 ∷ []) size longer (omega (arith, is, length-append h (free.0 ∷ []))) few in
    record {
      more = free.0 ∷ rest.more;
      stack = subst (IsStack app) (append_assoc h (free.0 ∷ []) rest.more) rest.stack;
      size_is = ap (λ (l : List ResNo). length l) (sym (append_assoc h (free.0 ∷ []) rest.more)) ∙ rest.size_is;
    }

-- A stack goes on to any size up to the number of resources that may be taken.
pub stack_goes_on : (app : App) (h : List ResNo) (size : ℕ) → IsStack app h → length h ≤ size → size ≤ takable_count app → GoesOn app h size
stack_goes_on app h size stack le few = goes_by app (size - length h) h size stack (omega (arith, le)) few

-- and each prefix of a stack is one
pub stack_prefix : (app : App) (h : List ResNo) (r : ResNo) (more : List ResNo) → IsStack app (h ++ r ∷ more) → IsStack app (h ++ r ∷ [])
stack_prefix app h r more stack =
    let e : take (length h + 1) (h ++ r ∷ more) ≡ h ++ r ∷ [] = take-append-add h (r ∷ more) 1 in
    subst (IsStack app) e (pop_stack app (length h + 1) (h ++ r ∷ more) stack)

pub empty_stack : (app : App) → IsStack app []
empty_stack app = no_stack app

last_each : (P : ResNo → Type 0) (h : List ResNo) (r : ResNo) → AllByRecursion P (h ++ r ∷ []) → P r
last_each P [] r all = all.0
last_each P (x ∷ h) r all = last_each P h r all.1

last_free : (h : List ResNo) (r : ResNo) → IsDistinct same_resource (h ++ r ∷ []) → holds h r.0 ≡ false
unfolding IsDistinct
last_free [] r d = refl
last_free (x ∷ h) r d = ap (λ (b : Bool). b || holds h r.0) (last_each (λ (y : ResNo). same_resource x y ≡ false) h r d.0) ∙ last_free h r d.1

-- the last of a stack may be taken, and is not among those before it
pub stack_last : (app : App) (h : List ResNo) (r : ResNo) → IsStack app (h ++ r ∷ []) → IsTakable app r × (holds h r.0 ≡ false)
stack_last app h r stack =
    let known = recursion_from_All (λ (q : ResNo). q.0 < length app.resources) (h ++ r ∷ []) stack.out_of.known in
    let free = recursion_from_All (λ (q : ResNo). IsTrue (not (is_internal app.resources q.0))) (h ++ r ∷ []) stack.takable in (
      (last_each (λ (q : ResNo). q.0 < length app.resources) h r known, last_each (λ (q : ResNo). IsTrue (not (is_internal app.resources q.0))) h r free),
      last_free h r stack.out_of.distinct,
    )
