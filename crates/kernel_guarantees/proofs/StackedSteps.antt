-- In each state that a run comes to, the tasks are stacked that are underway.
use Rattle.std.proofs.Common.{◌≡◌, ℕ, ◌<◌, ◌≤◌, Bool, true, false, ◌&&◌, nat_lt, map, length, refl, sym, subst, ap, ◌∙◌, inl, inr, arith, Some, None}
use Rattle.std.proofs.{lemmas.{Bool.{Decides.{nat_tests}, cases_Bool, cases_lt, eqb-true, false≢true}, List.{get_or-map, get_or_past}}, Math.ListN.{length-map}}
use Rattle.std.specs.{Prelude.{if◌then◌else◌}, declared.option.Option.{Option}}
use Rattle.osek_values.specs.declared.{event.Event.{Event}, numbers.{ModeNo.{ModeNo}, TaskNo.{TaskNo}}, status.Ask.{Ask}}
use Rattle.osek_values.specs.Bits.{has_bit}
use Rattle.osek_values.specs.declared.status.Ask.TheVariants as ask
use Rattle.osek_standard.specs.declared.{app.App.{App}, state.{State.{State}, Processor.{Processor}, Caller.{Caller, TheVariants.{Nobody, Task, Routine}}}, task_state.TaskState.{TaskState}}
use Rattle.osek_standard.specs.{Apps.{no_task, the_task}, TaskStates.{is_live, suspended}, States.{caller, is_that_task, task_of, task_state, with_processor}, Internal.{put_inside}, Line.{first_in_line, out_of_line}}
use Rattle.osek_standard.specs.{Priority.{best, current_priority}, Services.{activated_state}, Effects.{effect}, Kernel.{initial, start, started_task, step}, Well.{IsActive, Well}}
use Rattle.osek_standard.specs.Dispatch.{Outcome, dispatched, if_above, if_any, instruction, outcome_by, preempted_by, settled}
use Rattle.osek_standard.specs.declared.state.Processor.TheVariants as processor
use Rattle.osek_standard.proofs.{PriorityLaws.{best_is, none_live}}
use Rattle.kernel_guarantees.specs.Scheduling.{kind_at}
use Rattle.kernel_guarantees.specs.{Reached.{IsReached}, Underway.{IsStacked, has_begun, is_begun, is_current, is_underway}}
use Rattle.kernel_guarantees.proofs.{CurrentChanges.{kept_stacks}, Dispatching.{dispatch_keeps}, Effecting.{effect_does}, Reaching.{reached_has, step_goes}, Regrouping.{none_stacked}}
use Rattle.kernel_guarantees.proofs.{Serving.{either_by, running}, StackedDeeds.{LeavesIdle, StackedWith, activated_fresh, moving, stacked_deeds}}

pub not_live : (app : App) (t : ℕ) (x : TaskState) → is_live x ≡ false → is_begun app t x ≡ false
not_live app t x e = ap (λ (b : Bool). b && has_begun app t x) e

module _ (app : App) (s : State) (stacked : IsStacked app s) where
  -- the processor goes to none, where none is Live
  idle_by : (o : Option TaskNo) → ((t : ℕ) → is_live (task_state s t) ≡ false) → IsStacked app (with_processor (put_inside app (out_of_line (first_in_line s o) None) None) processor.Idle)
  idle_by None none = none_stacked app _ (λ t. not_live app t (task_state s t) (none t))
  idle_by (Some c) none = none_stacked app _ (λ t. not_live app t (task_state s t) (none t))

  -- it goes to the best task where it was idle
  idle_free : s.processor ≡ processor.Idle → (t : ℕ) → is_current s t ≡ false
  idle_free e t = ap (λ (p : Processor). is_that_task (task_of p) t) e

  best_by : (o : Option TaskNo) → best app s ≡ o → s.processor ≡ processor.Idle → IsStacked app (dispatched app s o)
  best_by None e idle = idle_by (task_of s.processor) (none_live app s e)
  best_by (Some x) e idle = dispatch_keeps app s stacked x (best_is app s x e) (idle_free idle x.0) (λ c now. absurd (false≢true (sym (idle_free idle c) ∙ now)))

  any_by : (o : Option TaskNo) → best app s ≡ o → s.processor ≡ processor.Idle → IsStacked app (settled app s (if_any o))
  any_by None e idle = kept_stacks app s stacked
  any_by (Some x) e idle = best_by (Some x) e idle

  -- or where it is strictly above the caller
  above_by : (c : TaskNo) (o : Option TaskNo) → s.processor ≡ processor.Running c → best app s ≡ o → IsStacked app (settled app s (if_above app s c o))
  above_by c None r e = kept_stacks app s stacked
  above_by c (Some x) r e = either_by (λ (o : Outcome). IsStacked app (settled app s o)) (nat_lt (current_priority app s c.0) (current_priority app s x.0)) _ _
      (λ f. let above : current_priority app s c.0 < current_priority app s x.0 = grind (arith, nat_tests) in dispatch_keeps app s stacked x (best_is app s x e) (beside x above) (strict x above)) (λ _. kept_stacks app s stacked) where
        current_is : (u : ℕ) → is_current s u ≡ true → c.0 ≡ u
        current_is u now = eqb-true c.0 u (sym (ap (λ (p : Processor). is_that_task (task_of p) u) r) ∙ now)

        beside : (x : TaskNo) → current_priority app s c.0 < current_priority app s x.0 → is_current s x.0 ≡ false
        beside x above = elim (cases_Bool (is_current s x.0)) [
          | inl now ↦ absurd (omega (arith, above, ap (λ (v : ℕ). current_priority app s v) (current_is x.0 now)))
          | inr f ↦ f
        ]

        strict : (x : TaskNo) → current_priority app s c.0 < current_priority app s x.0 → (d : ℕ) → is_current s d ≡ true → current_priority app s d < current_priority app s x.0
        strict x above d now = omega (arith, above, ap (λ (v : ℕ). current_priority app s v) (current_is d now))

  preempted_stacks : (c : Caller) → caller s.processor ≡ c → IsStacked app (settled app s (preempted_by app s c))
  preempted_stacks Nobody e = kept_stacks app s stacked
  preempted_stacks (Routine k) e = kept_stacks app s stacked
  preempted_stacks (Task c) e = above_by c (best app s) (running s c e) refl

  settled_stacks : (a : Ask) → LeavesIdle s.processor a → IsStacked app (settled app s (outcome_by app s a))
  settled_stacks ask.No h = kept_stacks app s stacked
  settled_stacks ask.Maybe h = preempted_stacks (caller s.processor) refl
  settled_stacks ask.Left h = best_by (best app s) refl h
  settled_stacks ask.Free h = any_by (best app s) refl h

module _ (app : App) where
  -- after the effect too, before the outcome
  pub effect_stacks : (s : State) (choice : Bool) → Well app s → IsActive s.processor → IsStacked app s → StackedWith app (effect app s choice).state (effect app s choice).ask
  effect_stacks s choice w active h = effect_does app (IsStacked app) (StackedWith app) s (stacked_deeds app (kind_at app s)) w active h (λ to. moving app s h to s.processor refl) choice

  instruction_stacks : (s : State) (choice : Bool) → Well app s → IsActive s.processor → IsStacked app s → IsStacked app (instruction app s choice).state
  unfolding instruction
  instruction_stacks s choice w active h =
      let e = effect app s choice in
      let does = effect_stacks s choice w active h in
      settled_stacks app e.state does.0 e.ask does.1

  step_stacks : (s : State) (e : Event) → Well app s → IsStacked app s → IsStacked app (step app s e).state
  step_stacks s e w h = step_goes app (IsStacked app) (λ n k g. record { apart = g.apart; below = g.below; ahead = g.ahead }) (λ n k v g a. record { apart = g.apart; below = g.below; ahead = g.ahead })
      (λ n choice v active g. instruction_stacks n choice v active g) s e w h

  started_fresh : (t : ℕ) (b : Bool) → is_begun app t (if b then activated_state app t else suspended) ≡ false
  started_fresh t true = activated_fresh app t
  started_fresh t false = refl

  -- at the start no task has begun
  pub none_underway : (mode : ModeNo) (t : ℕ) → is_underway app (initial app mode) t ≡ false
  none_underway mode t = elim (cases_lt t (length app.tasks)) [
    | inl known ↦ ap (is_begun app t) (get_or-map (started_task mode.0) app.tasks t no_task suspended known) ∙ started_fresh t (has_bit (the_task app t).autostart mode.0)
    | inr past ↦ ap (is_begun app t) (get_or_past (map (started_task mode.0) app.tasks) t suspended (subst (λ (n : ℕ). n ≤ t) (sym (length-map app.tasks (started_task mode.0))) past))
  ]

  start_stacks : (mode : ModeNo) → mode.0 < length app.modes → IsStacked app (start app mode).state
  unfolding start
  start_stacks mode known = let s = initial app mode in any_by app s (none_stacked app s (none_underway mode)) (best app s) refl refl

  pub reached_is_stacked : (s : State) → IsReached app s → IsStacked app s
  reached_is_stacked s r = reached_has app (IsStacked app) start_stacks step_stacks s r
