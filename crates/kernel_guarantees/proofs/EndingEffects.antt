-- The effect of an instruction that ends its task.
use Rattle.std.proofs.Common.{◌≡◌, ℕ, Bool, true, false, not, ◌&&◌, refl, sym, subst, arith, nat_eq, inl, inr}
use Rattle.std.proofs.lemmas.Bool.{cases_Bool, eqb-true, false≢true}
use Rattle.std.specs.declared.option.Option.{Option}
use Rattle.osek_values.specs.declared.{numbers.TaskNo.{TaskNo}, status.Status.{Status}}
use Rattle.osek_standard.specs.declared.{app.App.{App}, block.Kind.{Kind}, state.{State.{State}, Caller.{Caller, TheVariants.{Nobody, Task, Routine}}}}
use Rattle.osek_standard.specs.{States.{caller}, Services.{Answer, chain_task, holds_some, is_full, terminate_task}}
use Rattle.osek_standard.specs.{Effects.{Effect, effect, end_task}, Well.{IsActive, Well}}
use Rattle.osek_standard.specs.declared.block.Kind.TheVariants as kind
use Rattle.kernel_guarantees.specs.{Activations.{ends_by, one_if}, Instructions.{is_end}}
use Rattle.kernel_guarantees.specs.{Scheduling.{is_shutdown, kind_at}}
use Rattle.kernel_guarantees.proofs.Ending.{HasEnded, chained_has, ended_has}
use Rattle.kernel_guarantees.proofs.Onward.{effect_as, effect_is, onward, onward_caller, onward_well}
use Rattle.kernel_guarantees.proofs.{AccountedSteps.{no_end}}
use Rattle.kernel_guarantees.proofs.{Serving.{either_by, running}}
use Rattle.kernel_guarantees.proofs.CallNames as call

pub end_stays_on : (k : Kind) → is_end k ≡ true → is_shutdown k ≡ false
end_stays_on (kind.Call (call.Plain call.TerminateTask)) e = refl
end_stays_on (kind.Call (call.Task call.ChainTask t)) e = refl
end_stays_on kind.TaskEnd e = refl
end_stays_on _ e = absurd (false≢true e)

pub one_true : (b : Bool) → one_if b ≡ 1 → b ≡ true
one_true true e = refl
one_true false e = absurd (omega (arith, e))

module _ (app : App) (u : ℕ) where
  terminate_ended : (m : State) (d : Caller) → Well app m → caller m.processor ≡ d → ends_by d (kind.Call (call.Plain call.TerminateTask)) u (terminate_task app m d).status ≡ 1 → HasEnded app u (terminate_task app m d).state
  unfolding terminate_task
  terminate_ended m Nobody w e one = absurd (omega (arith, one))
  terminate_ended m (Routine k) w e one = absurd (omega (arith, one))
  terminate_ended m (Task c) w e one = either_by (λ (a : Answer). ends_by (Task c) (kind.Call (call.Plain call.TerminateTask)) u a.status ≡ 1 → HasEnded app u a.state) (holds_some m c.0) _ _
      (λ _ f. absurd (omega (arith, f))) (λ _ f. ended_has app u m w c (running m c e) (eqb-true c.0 u (one_true (nat_eq c.0 u) f))) one

  chain_ended : (m : State) (d : Caller) (v : TaskNo) → Well app m → caller m.processor ≡ d → ends_by d (kind.Call (call.Task call.ChainTask v)) u (chain_task app m d v.0).status ≡ 1 → HasEnded app u (chain_task app m d v.0).state
  unfolding chain_task
  chain_ended m Nobody v w e one = absurd (omega (arith, one))
  chain_ended m (Routine k) v w e one = absurd (omega (arith, one))
  chain_ended m (Task c) v w e one =
      let D : Answer → Type 0 = λ a. ends_by (Task c) (kind.Call (call.Task call.ChainTask v)) u a.status ≡ 1 → HasEnded app u a.state in
      either_by D (holds_some m c.0) _ _ (λ _ f. absurd (omega (arith, f))) (λ _. either_by D (not (nat_eq v.0 c.0) && is_full app m v.0) _ _ (λ _ f. absurd (omega (arith, f)))
      (λ _ f. chained_has app u m w c (running m c e) (eqb-true c.0 u (one_true (nat_eq c.0 u) f)) v.0)) one

  task_end_ended : (m : State) (d : Caller) → Well app m → caller m.processor ≡ d → ends_by d kind.TaskEnd u (end_task app m d).status ≡ 1 → HasEnded app u (end_task app m d).state
  task_end_ended m Nobody w e one = absurd (omega (arith, one))
  task_end_ended m (Routine k) w e one = absurd (omega (arith, one))
  task_end_ended m (Task c) w e one = ended_has app u m w c (running m c e) (eqb-true c.0 u (one_true (nat_eq c.0 u) one))

  module _ (s : State) (w : Well app s) (active : IsActive s.processor) (choice : Bool) where
    abbrev who : Caller
    who = caller s.processor

    abbrev Ends : Kind → Effect → Type 0
    Ends k e = ends_by who k u e.notes.status ≡ 1 → HasEnded app u e.state

    ended_at : (k : Kind) → Ends k (effect_as app s choice k)
    ended_at (kind.Call (call.Plain call.TerminateTask)) one = terminate_ended (onward app s) who (onward_well app s w active) (onward_caller app s) one
    ended_at (kind.Call (call.Task call.ChainTask v)) one = chain_ended (onward app s) who v (onward_well app s w active) (onward_caller app s) one
    ended_at kind.TaskEnd one = task_end_ended s who w refl one
    ended_at k one = absurd (omega (arith, one, no_end who k u (effect_as app s choice k).notes.status refl))

    pub effect_ended : Ends (kind_at app s) (effect app s choice)
    effect_ended = subst (Ends (kind_at app s)) (sym (effect_is app s w active choice)) (ended_at (kind_at app s))

    pub ends_is_end : (d : Caller) (k : Kind) (x : Option Status) → ends_by d k u x ≡ 1 → is_end k ≡ true
    ends_is_end d k x one = elim (cases_Bool (is_end k)) [
      | inl e ↦ e
      | inr e ↦ absurd (omega (arith, one, no_end d k u x e))
    ]
