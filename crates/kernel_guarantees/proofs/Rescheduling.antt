-- Who is current after the effect of an instruction and after its outcome, and at which instructions another task becomes so.
use Rattle.std.proofs.Common.{◌≡◌, ℕ, ◌<◌, Bool, true, false, refl, sym, subst, ap, ◌∙◌, arith, Some, None, inl, inr, ◌⊎◌, length, get_or-set_same}
use Rattle.std.proofs.lemmas.Bool.{false≢true}
use Rattle.std.specs.declared.option.Option.{Option}
use Rattle.osek_values.specs.declared.{numbers.{SourceNo.{SourceNo}, TaskNo.{TaskNo}}, status.Ask.{Ask}}
use Rattle.osek_values.specs.declared.status.Ask.TheVariants as ask
use Rattle.oil_system.specs.declared.objects.Schedule.{Schedule, TheVariants.{Non, Full}}
use Rattle.osek_standard.specs.declared.{app.App.{App}, block.Kind.{Kind}, state.{State.{State}, Processor.{Processor}}}
use Rattle.osek_standard.specs.declared.task_state.{TaskState.{TaskState}}
use Rattle.osek_standard.specs.{Apps.{is_routine_end, may_dispatch, the_task}, TaskStates.{is_live, suspended}, States.{caller, here, task_of, task_state, with_source, with_task}, Services.{count_up}}
use Rattle.osek_standard.specs.{Effects.{asked_over, effect, halted_by, is_schedule, returned_to}, Well.{InOwner, IsActive, IsOwn, Well}}
use Rattle.osek_standard.specs.declared.state.Processor.TheVariants as processor
use Rattle.osek_standard.specs.declared.state.Source.TheVariants as source
use Rattle.osek_standard.specs.declared.block.Kind.TheVariants as kind
use Rattle.osek_standard.proofs.{Callers.{moved_processor, task_level_of}, MoveKeeps.{here_own}}
use Rattle.kernel_guarantees.specs.{Instructions.{is_end, is_wait, may_activate, may_set}, Scheduling.{is_shutdown, kind_at, reschedules}}
use Rattle.kernel_guarantees.specs.Underway.{is_underway}
use Rattle.kernel_guarantees.proofs.Ending.{chained_has, ended_has}
use Rattle.kernel_guarantees.proofs.{Deeds.{AreDeeds, asked_of}, Effecting.{effect_does, no_expire}, StackSteps.{or_first, or_rest}}
use Rattle.kernel_guarantees.proofs.CallNames as call

end_dispatches : (k : Kind) → is_end k ≡ true → may_dispatch k ≡ true
end_dispatches (kind.Call (call.Plain call.TerminateTask)) e = refl
end_dispatches (kind.Call (call.Task call.ChainTask t)) e = refl
end_dispatches kind.TaskEnd e = refl
end_dispatches _ e = absurd (false≢true e)

wait_dispatches : (k : Kind) → is_wait k ≡ true → may_dispatch k ≡ true
wait_dispatches (kind.Call (call.Mask call.WaitEvent m)) e = refl
wait_dispatches _ e = absurd (false≢true e)

schedule_dispatches : (k : Kind) → is_schedule k ≡ true → may_dispatch k ≡ true
schedule_dispatches (kind.Call (call.Plain call.Schedule)) e = refl
schedule_dispatches _ e = absurd (false≢true e)

-- a state and a task in it, of a caller that asks whether another one is to run
pub record IsAsking (r : State) (P : TaskNo → Type 0) : Type 0 where
  pub task : TaskNo
  pub runs : r.processor ≡ processor.Running task
  pub was : P task

module _ (app : App) (s : State) where
  abbrev did : Kind
  did = kind_at app s

  abbrev AtPoint : Type 0
  AtPoint = reschedules (caller s.processor) did ≡ true

  -- the caller left: it ended, or waits
  pub record HasLeft (r : State) : Type 0 where
    pub task : TaskNo
    pub ran : s.processor ≡ processor.Running task
    pub idle : r.processor ≡ processor.Idle
    pub gone : ((is_end did ≡ true) × (is_underway app r task.0 ≡ false)) ⊎ (is_live (task_state r task.0) ≡ false)

  -- who is current, and what may be asked, after the effect
  abbrev pub HasAsked : State → Ask → Type 0
  HasAsked r ask.No = (task_of r.processor ≡ task_of s.processor) ⊎ ((r.processor ≡ processor.Halted) × AtPoint)
  HasAsked r ask.Maybe = IsAsking r (λ c. task_of s.processor ≡ Some c) × AtPoint
  HasAsked r ask.Left = HasLeft r × AtPoint
  HasAsked r ask.Free = (r.processor ≡ processor.Idle) × (task_of s.processor ≡ None) × AtPoint

  abbrev AsBefore : State → Type 0
  AsBefore m = m.processor ≡ s.processor

  at_task : (c : TaskNo) → s.processor ≡ processor.Running c → may_dispatch did ≡ true → AtPoint
  at_task c e goes = ap (λ (p : Processor). reschedules (caller p) did) e ∙ or_first (may_dispatch did) (is_shutdown did) goes

  at_shutdown : (p : Processor) → s.processor ≡ p → IsActive p → is_shutdown did ≡ true → reschedules (caller p) did ≡ true
  at_shutdown processor.Halted e active off = absurd active
  at_shutdown processor.Idle e active off = absurd active
  at_shutdown (processor.Running c) e active off = or_rest (may_dispatch did) (is_shutdown did) off
  at_shutdown (processor.Interrupted k over) e active off = or_rest (is_routine_end did) (is_shutdown did) off

  asking_over : (r : State) (c : TaskNo) (x : Schedule) → r.processor ≡ processor.Running c → task_of s.processor ≡ Some c → AtPoint → HasAsked r (asked_over x)
  asking_over r c Full e f at = (record { task = c; runs = e; was = f }, at)
  asking_over r c Non e f at = inl (ap task_of e ∙ sym f)

  asking : (r : State) (p : Processor) → r.processor ≡ p → s.processor ≡ p → ((c : TaskNo) → p ≡ processor.Running c → AtPoint) → HasAsked r (asked_of app (caller p))
  asking r processor.Halted e f at = inl (ap task_of (e ∙ sym f))
  asking r processor.Idle e f at = inl (ap task_of (e ∙ sym f))
  asking r (processor.Running c) e f at = asking_over r c (the_task app c.0).schedule e (ap task_of f) (at c refl)
  asking r (processor.Interrupted k over) e f at = inl (ap task_of (e ∙ sym f))

  returning : (m : State) (k : SourceNo) (over : Option TaskNo) (o : Option SourceNo) → task_of s.processor ≡ over → AtPoint
      → HasAsked (returned_to app (with_source m k.0 source.Out) over o).state (returned_to app (with_source m k.0 source.Out) over o).ask
  returning m k None None e at = (refl, e, at)
  returning m k (Some t) None e at = asking_over _ t (the_task app t.0).schedule refl e at
  returning m k over (Some j) e at = inl (sym e)

  halting : (m : State) (p : Processor) → IsActive p → (halted_by m p).processor ≡ processor.Halted
  halting m processor.Halted active = absurd active
  halting m processor.Idle active = absurd active
  halting m (processor.Running t) active = refl
  halting m (processor.Interrupted k over) active = refl

  counting : (m : State) (c : ℕ) → AsBefore m → AsBefore (count_up app m c)
  unfolding count_up
  counting m c q = q

  module _ (w : Well app s) (active : IsActive s.processor) where
    -- a task's instruction that activates a task or sets events is a call
    own : (c : TaskNo) → s.processor ≡ processor.Running c → IsOwn app c.0 (here s).block.0
    own c e = subst (λ (p : Processor). InOwner app p (here s).block.0) e (here_own app s w active)

    activating_dispatches : (c : TaskNo) → s.processor ≡ processor.Running c → (t : ℕ) (k : Kind) → did ≡ k → may_activate app k t ≡ true → may_dispatch k ≡ true
    activating_dispatches c e t (kind.Call (call.Task call.ActivateTask u)) f goes = refl
    activating_dispatches c e t (kind.Call (call.Task call.ChainTask u)) f goes = refl
    activating_dispatches c e t (kind.Expire a) f goes = absurd (no_expire app c.0 (here s).block.0 a (task_level_of app s c w e).running.0 (own c e) f)
    activating_dispatches c e t _ f goes = absurd (false≢true goes)

    setting_dispatches : (c : TaskNo) → s.processor ≡ processor.Running c → (t m : ℕ) (k : Kind) → did ≡ k → may_set app k t m ≡ true → may_dispatch k ≡ true
    setting_dispatches c e t m (kind.Call (call.SetEvent u n)) f goes = refl
    setting_dispatches c e t m (kind.Expire a) f goes = absurd (no_expire app c.0 (here s).block.0 a (task_level_of app s c w e).running.0 (own c e) f)
    setting_dispatches c e t m _ f goes = absurd (false≢true goes)

    ran : (m : State) (c : TaskNo) → AsBefore m → m.processor ≡ processor.Running c → s.processor ≡ processor.Running c
    ran m c q e = sym q ∙ e

    leaving : (m r : State) (c : TaskNo) → AsBefore m → m.processor ≡ processor.Running c → r.processor ≡ processor.Idle
        → ((is_end did ≡ true) × (is_underway app r c.0 ≡ false)) ⊎ (is_live (task_state r c.0) ≡ false) → may_dispatch did ≡ true → HasAsked r ask.Left
    leaving m r c q e idle gone goes = (record { task = c; ran = ran m c q e; idle = idle; gone = gone }, at_task c (ran m c q e) goes)

    waiting : (m : State) (c : TaskNo) (y : TaskState) → Well app m → m.processor ≡ processor.Running c → is_live y ≡ false → is_live (task_state (with_task m c.0 y) c.0) ≡ false
    waiting m c y v e none =
        let known : c.0 < length m.tasks = omega (arith, (task_level_of app m c v e).running.0, v.tasks_len) in
        ap is_live (get_or-set_same m.tasks c.0 y suspended known) ∙ none

    asked_deeds : AreDeeds app did AsBefore HasAsked
    asked_deeds = record {
      counts = λ m c q up. counting m c q;
      arms = λ m a x q sets. q;
      rests = λ m v q. inl (ap task_of q);
      takes = λ m c r v q e free low. inl (ap task_of q);
      gives = λ m c n v q e goes. asking_over _ c (the_task app c.0).schedule e (ap task_of (ran m c q e)) (at_task c (ran m c q e) goes);
      routine_takes = λ m l r v q e free low. inl (ap task_of q);
      routine_gives = λ m l n v q e. inl (ap task_of q);
      activates = λ m t v q known room goes. asking _ m.processor refl (sym q) (λ c e. at_task c (ran m c q e) (activating_dispatches c (ran m c q e) t did refl goes));
      wakes = λ m t e v q known ext waits goes. asking _ m.processor refl (sym q) (λ c f. at_task c (ran m c q f) (setting_dispatches c (ran m c q f) t e did refl goes));
      sets = λ m t e v q known waits sent. inl (ap task_of q);
      clears = λ m c e v q r goes. inl (ap task_of q);
      ends = λ m c v q e goes. leaving m _ c q e refl (inl (goes, (ended_has app c.0 m v c e refl).1)) (end_dispatches did goes);
      chains = λ m c t v q e known room goes chained. leaving m _ c q e refl (inl (goes, (chained_has app c.0 m v c e refl t).1)) (end_dispatches did goes);
      waits = λ m c v q e ext none goes. leaving m _ c q e refl (inr (waiting m c _ v e refl)) (wait_dispatches did goes);
      lets_out = λ m c v q e none goes. (record { task = c; runs = e; was = ap task_of (ran m c q e) }, at_task c (ran m c q e) (schedule_dispatches did goes));
      returns = λ m l over o v q e f goes. returning m l over o (ap task_of (sym q ∙ e)) (ap (λ (p : Processor). reschedules (caller p) did) (sym q ∙ e) ∙ or_first (is_routine_end did) (is_shutdown did) goes);
      halts = λ m v q off. inr (halting m m.processor (subst IsActive (sym q) active), at_shutdown s.processor refl active off);
    }

    pub effect_asks : (choice : Bool) → HasAsked (effect app s choice).state (effect app s choice).ask
    effect_asks choice = effect_does app AsBefore HasAsked s asked_deeds w active refl (λ to. moved_processor s to s.processor) choice
