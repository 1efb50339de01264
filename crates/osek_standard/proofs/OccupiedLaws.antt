-- What a task has, its INTERNAL resource where it is inside and then its stack, are distinct resources.
use Rattle.std.proofs.Common.{◌≡◌, ℕ, ◌<◌, ◌≤◌, Bool, true, false, not, IsTrue, List, [], ◌∷◌, length, Some, None, nat_eq, subst, inl, inr, arith}
use Rattle.std.proofs.lemmas.{Bool.{Decides.{nat_tests}, cases_Bool, false≢true}, List.Elements.{recursion_from_All, All-from_recursion}}
use Rattle.std.specs.{Prelude.{if◌then◌else◌}, List.{IsDistinct, AllByRecursion, cons_option}, declared.option.Option.{Option}}
use Rattle.osek_values.specs.declared.{limits.TheConstants.{MAX_RESOURCES}, numbers.ResNo.{ResNo}}
use Rattle.osek_standard.specs.{declared.{app.App.{App}, task_state.TaskState.{TaskState}}, Apps.{tables, no_task}, TaskStates.{is_inside, held}}
use Rattle.osek_standard.specs.{Internal.{internal_of, occupied}, Validity.{IsInternal, is_internal}, Well.{IsActivityOf, IsStack, IsStackOutOf, same_resource}}
use Rattle.osek_standard.proofs.StackLaws.{stack_few, stack_in}

module _ (app : App) where
  -- an INTERNAL resource is none that isn't
  is_other : (r q : ResNo) → IsTrue (is_internal app.resources r.0) → IsTrue (not (is_internal app.resources q.0)) → same_resource r q ≡ false
  is_other r q h n = elim (cases_Bool (nat_eq r.0 q.0)) [
    | inl e ↦ (let same : r.0 ≡ q.0 = grind (arith, nat_tests) in
        let also : is_internal app.resources q.0 ≡ true = subst (λ (k : ℕ). is_internal app.resources k ≡ true) same h in
        absurd (false≢true (subst (λ (b : Bool). not b ≡ true) also n)))
    | inr e ↦ e
  ]

  are_others : (r : ResNo) (stack : List ResNo) → IsTrue (is_internal app.resources r.0) → AllByRecursion (λ (q : ResNo). IsTrue (not (is_internal app.resources q.0))) stack →
      AllByRecursion (λ (q : ResNo). same_resource r q ≡ false) stack
  are_others r [] h all = tt
  are_others r (q ∷ stack) h all = (is_other r q h all.0, are_others r stack h all.1)

  with_internal : (o : Option ResNo) (stack : List ResNo) → IsInternal (tables app) o → IsStack app stack → IsStackOutOf (length app.resources) (cons_option o stack)
  unfolding IsDistinct
  with_internal None stack h k = k.out_of
  with_internal (Some r) stack h k = record {
    distinct = (are_others r stack h.1 (recursion_from_All _ stack k.takable), k.out_of.distinct);
    known = All-from_recursion (λ (q : ResNo). q.0 < length app.resources) (r ∷ stack) (h.0, recursion_from_All (λ (q : ResNo). q.0 < length app.resources) stack k.out_of.known);
  }

  inside_or_not : (t : ℕ) (inside : Bool) (stack : List ResNo) → t < length app.tasks → IsStack app stack
      → IsStackOutOf (length app.resources) (cons_option (if inside then internal_of app t else None) stack)
  inside_or_not t true stack known k = with_internal (internal_of app t) stack (app.valid.internals t no_task known) k
  inside_or_not t false stack known k = k.out_of

  pub occupied_stack : (t : ℕ) (x : TaskState) → t < length app.tasks → IsActivityOf app t x.activity → IsStackOutOf (length app.resources) (occupied app t x)
  occupied_stack t x known right = inside_or_not t (is_inside x) (held x) known (stack_in app t x.activity right)

  -- and so no more than an application may have
  pub occupied_few : (t : ℕ) (x : TaskState) → t < length app.tasks → IsActivityOf app t x.activity → length (occupied app t x) ≤ MAX_RESOURCES
  occupied_few t x known right = omega (arith, stack_few (length app.resources) (occupied app t x) (occupied_stack t x known right), app.valid.few_resources)
