-- Which calls are accepted, and how calls of alarms are refused.
use Rattle.std.proofs.Common.{◌≡◌, ◌⊎◌, ℕ, ◌-◌, ◌<◌, ◌≤◌, Bool, true, false, not, ◌&&◌, ◌||◌, zero, suc, List, [], ◌∷◌, ◌++◌, length, length-append, nat_eq, nat_lt, refl, sym, subst, ap, ◌∙◌, inl, inr, arith, Some, None}
use Rattle.std.proofs.lemmas.Bool.{and_right, eq-eqb, false≢true, le-ltb, ne_eqb, or_from}
use Rattle.std.specs.{Prelude.{slice_get, slice_index_or}, declared.option.Option.{Option}}
use Rattle.osek_values.specs.declared.{mask.Mask.{Mask}, numbers.{AlarmNo.{AlarmNo}, ModeNo.{ModeNo}, ResNo.{ResNo}, TaskNo.{TaskNo}}}
use Rattle.osek_values.specs.declared.status.Status.TheVariants as status
use Rattle.osek_values.specs.declared.notes.Value.TheVariants as value
use Rattle.oil_system.specs.declared.objects.Action.{Action}
use Rattle.oil_system.specs.declared.objects.Action.TheVariants as action
use Rattle.osek_standard.specs.declared.{app.App.{App}, task_state.Place.{Place}}
use Rattle.osek_standard.specs.declared.state.{State.{State}, AlarmState.{AlarmState, TheVariants.{Idle, Armed}}, Processor.{Processor}, Caller.{Caller, TheVariants.{Nobody, Routine, Task}}}
use Rattle.osek_standard.specs.{Apps.{is_cycle, is_extended, max_of, the_alarm, the_block}, TaskStates.{held, holds, is_suspended}, States.{alarm_state, caller, here, task_state, with_alarm}}
use Rattle.osek_standard.specs.{Priority.{base_priority, ceiling}, Levels.{interrupt_ceiling, own_level}, Well.{IsActive}, Dispatch.{instruction}}
use Rattle.osek_standard.specs.Services.{Answer, acted, cancel_alarm, chain_task, due, expire, get_alarm, holds_some, is_due_at, is_full, is_idle, is_on_top, is_top_resource, rearmed, release_resource, release_resource_by}
use Rattle.osek_standard.specs.Services.{release_resource_isr, schedule, set_abs_alarm, set_rel_alarm, share, stack_of_source, terminate_task, time_left, value_of, wait_event}
use Rattle.osek_standard.specs.Effects.{Effect, moved_by, place_at}
use Rattle.osek_standard.specs.declared.block.Kind.TheVariants as kind
use Rattle.osek_standard.specs.declared.state.Processor.TheVariants as processor
use Rattle.kernel_guarantees.specs.{Events.{IsDue}, Holding.{IsCalledBy, IsCaller}, Resources.{Holder, IsCeiled, OfTask, ceiling_for, own_rank, stack_of}, Scheduling.{kind_at}}
use Rattle.kernel_guarantees.proofs.{CallRefusals.{event_taken, same_suspended}, ClockDeeds.{same_full}, ClockMoves.{after, same_after}, EventReleases.{due_after}, LockedSteps.{effect_of}, Serving.{either_by}}
use Rattle.kernel_guarantees.proofs.{StackBars.{went_status}, StackChanges.{onward_same}, StackSteps.{or_first, or_rest}}
use Rattle.kernel_guarantees.proofs.CallNames as call

-- what is taken last is on top
last : (g : List ResNo) (r : ResNo) (k : ℕ) → length g ≡ k → slice_get (g ++ r ∷ []) k ≡ Some r
last [] r zero e = refl
last [] r (suc k) e = absurd (omega (arith, e))
last (q ∷ g) r zero e = absurd (omega (arith, e))
last (q ∷ g) r (suc k) e = last g r k (omega (arith, e))

on_top : (g : List ResNo) (r : ResNo) → is_on_top r.0 (g ++ r ∷ []) ≡ true
on_top g r = ap (λ (o : Option ResNo). is_top_resource o r.0) (last g r (length (g ++ r ∷ []) - 1) (omega (arith, length-append g (r ∷ [])))) ∙ eq-eqb r.0 r.0 refl

holds_last : (g : List ResNo) (r : ResNo) → holds (g ++ r ∷ []) r.0 ≡ true
holds_last [] r = or_first (nat_eq r.0 r.0) false (eq-eqb r.0 r.0 refl)
holds_last (q ∷ g) r = or_rest (nat_eq q.0 r.0) (holds (g ++ r ∷ []) r.0) (holds_last g r)

module _ (app : App) (m : State) where
  abbrev IsOk : Answer → Type 0
  IsOk a = a.status ≡ Some status.Ok

  -- TerminateTask and ChainTask answer nothing where they are accepted
  abbrev AnswersNone : Answer → Type 0
  AnswersNone a = a.status ≡ None

  module _ (c : TaskNo) (none : holds_some m c.0 ≡ false) where
    holds_none : {X : Type 0} → holds_some m c.0 ≡ true → X
    holds_none some = absurd (false≢true (sym none ∙ some))

    terminates : AnswersNone (terminate_task app m (Task c))
    unfolding terminate_task
    terminates = either_by AnswersNone (holds_some m c.0) _ _ (λ some. holds_none some) (λ _. refl)

    chains : (t : ℕ) → (not (nat_eq t c.0) && is_full app m t) ≡ false → AnswersNone (chain_task app m (Task c) t)
    unfolding chain_task
    chains t room = either_by AnswersNone (holds_some m c.0) _ _ (λ some. holds_none some)
        (λ _. either_by AnswersNone (not (nat_eq t c.0) && is_full app m t) _ _ (λ full. absurd (false≢true (sym room ∙ full))) (λ _. refl))

    schedules : IsOk (schedule m (Task c))
    unfolding schedule
    schedules = either_by IsOk (holds_some m c.0) _ _ (λ some. holds_none some) (λ _. refl)

    waits : (e : ℕ) → is_extended app c.0 ≡ true → IsOk (wait_event app m (Task c) e)
    unfolding wait_event
    waits e ext = either_by IsOk (not (is_extended app c.0)) _ _ (λ no. absurd (false≢true (sym (ap not ext) ∙ no))) (λ _. either_by IsOk (holds_some m c.0) _ _ (λ some. holds_none some)
        (λ _. either_by IsOk (share (task_state m c.0).events.0 e) _ _ (λ _. refl) (λ _. refl)))

  releases : (x : Holder) (c : Caller) (r : ResNo) → IsCalledBy c x → own_rank app x ≤ ceiling_for app x r.0 → is_on_top r.0 (stack_of m x) ≡ true → IsOk (release_resource_by app m c r)
  unfolding release_resource release_resource_isr
  releases x Nobody r is low top = absurd is
  releases x (Routine k) r is low top =
      let under : nat_lt (interrupt_ceiling app r.0) (own_level app k.0) ≡ false = le-ltb (interrupt_ceiling app r.0) (own_level app k.0) (subst (λ (z : Holder). own_rank app z ≤ ceiling_for app z r.0) is low) in
      either_by IsOk (nat_lt (interrupt_ceiling app r.0) (own_level app k.0)) _ _ (λ above. absurd (false≢true (sym under ∙ above)))
      (λ _. either_by IsOk (is_on_top r.0 (stack_of_source app m k.0)) _ _ (λ _. refl) (λ no. absurd (false≢true (sym no ∙ subst (λ (z : Holder). is_on_top r.0 (stack_of m z) ≡ true) is top))))
  releases x (Task c) r is low top =
      let under : nat_lt (ceiling app r.0) (base_priority app c.0) ≡ false = le-ltb (ceiling app r.0) (base_priority app c.0) (subst (λ (z : Holder). own_rank app z ≤ ceiling_for app z r.0) is low) in
      either_by IsOk (nat_lt (ceiling app r.0) (base_priority app c.0)) _ _ (λ above. absurd (false≢true (sym under ∙ above)))
      (λ _. either_by IsOk (is_on_top r.0 (held (task_state m c.0))) _ _ (λ _. refl) (λ no. absurd (false≢true (sym no ∙ subst (λ (z : Holder). is_on_top r.0 (stack_of m z) ≡ true) is top))))

  -- calls of alarms
  module _ (a : ℕ) where
    abbrev IsState : Answer → Type 0
    IsState z = z.status ≡ Some status.State

    abbrev IsNoFunc : Answer → Type 0
    IsNoFunc z = z.status ≡ Some status.NoFunc

    module _ (idle : alarm_state m a ≡ Idle) where
      not_armed : {X : Type 0} → not (is_idle (alarm_state m a)) ≡ true → X
      not_armed e = absurd (false≢true (sym (ap (λ (v : AlarmState). not (is_idle v)) idle) ∙ e))

      relative : (i c : ℕ) → 0 < i → i ≤ max_of app a → is_cycle app a c ≡ true → IsOk (set_rel_alarm app m a i c)
      unfolding set_rel_alarm
      relative i c some within round =
          let right : (nat_eq i 0 || nat_lt (max_of app a) i || not (is_cycle app a c)) ≡ false
          = or_from (nat_eq i 0 || nat_lt (max_of app a) i) (not (is_cycle app a c)) (or_from (nat_eq i 0) (nat_lt (max_of app a) i) (ne_eqb i 0 (λ e. omega (arith, some, e))) (le-ltb (max_of app a) i within)) (ap not round) in
          either_by IsOk (not (is_idle (alarm_state m a))) _ _ (λ no. not_armed no)
          (λ _. either_by IsOk (nat_eq i 0 || nat_lt (max_of app a) i || not (is_cycle app a c)) _ _ (λ bad. absurd (false≢true (sym right ∙ bad))) (λ _. refl))

      absolute : (v c : ℕ) → v ≤ max_of app a → is_cycle app a c ≡ true → IsOk (set_abs_alarm app m a v c)
      unfolding set_abs_alarm
      absolute v c within round =
          let right : (nat_lt (max_of app a) v || not (is_cycle app a c)) ≡ false = or_from (nat_lt (max_of app a) v) (not (is_cycle app a c)) (le-ltb (max_of app a) v within) (ap not round) in
          either_by IsOk (not (is_idle (alarm_state m a))) _ _ (λ no. not_armed no)
          (λ _. either_by IsOk (nat_lt (max_of app a) v || not (is_cycle app a c)) _ _ (λ bad. absurd (false≢true (sym right ∙ bad))) (λ _. refl))

      cancels_none : IsNoFunc (cancel_alarm app m a)
      unfolding cancel_alarm
      cancels_none = either_by IsNoFunc (is_idle (alarm_state m a)) _ _ (λ _. refl) (λ no. absurd (false≢true (sym no ∙ ap is_idle idle)))

      tells_none : IsNoFunc (get_alarm app m a)
      unfolding get_alarm
      tells_none = ap (λ (v : AlarmState). (time_left app m a (due v)).status) idle

    module _ (at cycle : ℕ) (armed : alarm_state m a ≡ Armed at cycle) where
      not_idle : {X : Type 0} → is_idle (alarm_state m a) ≡ true → X
      not_idle e = absurd (false≢true (sym (ap is_idle armed) ∙ e))

      is_armed : not (is_idle (alarm_state m a)) ≡ true
      is_armed = ap (λ (v : AlarmState). not (is_idle v)) armed

      relative_refused : (i c : ℕ) → IsState (set_rel_alarm app m a i c)
      unfolding set_rel_alarm
      relative_refused i c = either_by IsState (not (is_idle (alarm_state m a))) _ _ (λ _. refl) (λ no. absurd (false≢true (sym no ∙ is_armed)))

      absolute_refused : (v c : ℕ) → IsState (set_abs_alarm app m a v c)
      unfolding set_abs_alarm
      absolute_refused v c = either_by IsState (not (is_idle (alarm_state m a))) _ _ (λ _. refl) (λ no. absurd (false≢true (sym no ∙ is_armed)))

      cancels : IsOk (cancel_alarm app m a)
      unfolding cancel_alarm
      cancels = either_by IsOk (is_idle (alarm_state m a)) _ _ (λ no. not_idle no) (λ _. refl)

module _ (app : App) (s : State) (choice : Bool) (active : IsActive s.processor) where
  abbrev n : State
  n = after app s

  abbrev to : Place
  to = place_at (the_block app (here s).block.0).next 0

  abbrev Ok : Effect → Type 0
  Ok e = e.notes.status ≡ Some status.Ok

  abbrev Silent : Effect → Type 0
  Silent e = e.notes.status ≡ None

  -- of the task that runs, where it holds nothing
  module _ (c : TaskNo) (runs : s.processor ≡ processor.Running c) (none : held (task_state s c.0) ≡ []) where
    calls : Task c ≡ caller s.processor
    calls = sym (ap caller runs)

    no_more : holds_some s c.0 ≡ false
    no_more = ap (λ (g : List ResNo). not (nat_eq (length g) 0)) none

    no_more_onward : holds_some n c.0 ≡ false
    no_more_onward = ap (λ (g : List ResNo). not (nat_eq (length g) 0)) (onward_same app s (OfTask c.0) ∙ none)

    pub terminate_is_accepted : kind_at app s ≡ kind.Call (call.Plain call.TerminateTask) → (instruction app s choice).notes.status ≡ None
    unfolding instruction
    terminate_is_accepted is = subst Silent (sym (effect_of app s choice active (kind.Call (call.Plain call.TerminateTask)) is)) (subst (λ (d : Caller). (terminate_task app n d).status ≡ None) calls (terminates app n c no_more_onward))

    room : (t : ℕ) → (t ≡ c.0) ⊎ (is_full app s t ≡ false) → (not (nat_eq t c.0) && is_full app n t) ≡ false
    room t (inl same) = ap (λ (b : Bool). not b && is_full app n t) (eq-eqb t c.0 same)
    room t (inr free) = and_right (not (nat_eq t c.0)) (is_full app n t) (same_full app s to s.processor t ∙ free)

    pub chain_is_accepted : (t : TaskNo) → kind_at app s ≡ kind.Call (call.Task call.ChainTask t) → (t.0 ≡ c.0) ⊎ (is_full app s t.0 ≡ false) → (instruction app s choice).notes.status ≡ None
    unfolding instruction
    chain_is_accepted t is free = subst Silent (sym (effect_of app s choice active (kind.Call (call.Task call.ChainTask t)) is)) (subst (λ (d : Caller). (chain_task app n d t.0).status ≡ None) calls (chains app n c no_more_onward t.0 (room t.0 free)))

    pub schedule_is_accepted : kind_at app s ≡ kind.Call (call.Plain call.Schedule) → (instruction app s choice).notes.status ≡ Some status.Ok
    unfolding instruction
    schedule_is_accepted is = subst Ok (sym (effect_of app s choice active (kind.Call (call.Plain call.Schedule)) is)) (subst (λ (d : Caller). (schedule n d).status ≡ Some status.Ok) calls (schedules app n c no_more_onward))

    pub wait_is_accepted : (e : Mask) → kind_at app s ≡ kind.Call (call.Mask call.WaitEvent e) → is_extended app c.0 ≡ true → (instruction app s choice).notes.status ≡ Some status.Ok
    unfolding instruction
    wait_is_accepted e is ext =
        let a : Answer = wait_event app s (caller s.processor) e.0 in
        subst Ok (sym (effect_of app s choice active (kind.Call (call.Mask call.WaitEvent e)) is))
        (went_status a.ask (the_block app (here s).block.0).next a ∙ subst (λ (d : Caller). (wait_event app s d e.0).status ≡ Some status.Ok) calls (waits app s c no_more e.0 ext))

  -- who releases the resource that it took last
  pub release_is_accepted : IsCeiled app s → (x : Holder) (r : ResNo) (g : List ResNo) → IsCaller s x → kind_at app s ≡ kind.Call (call.Resource call.ReleaseResource r) → stack_of s x ≡ g ++ r ∷ [] → (instruction app s choice).notes.status ≡ Some status.Ok
  unfolding instruction
  release_is_accepted low x r g mine is stack = subst Ok (sym (effect_of app s choice active (kind.Call (call.Resource call.ReleaseResource r)) is))
      (releases app n x (caller s.processor) r mine (low x r.0 (subst (λ (h : List ResNo). holds h r.0 ≡ true) (sym stack) (holds_last g r)))
      (subst (λ (h : List ResNo). is_on_top r.0 h ≡ true) (sym (onward_same app s x ∙ stack)) (on_top g r)))

  module _ (a : AlarmNo) where
    same_alarm : alarm_state n a.0 ≡ alarm_state s a.0
    same_alarm = ap (λ (xs : List AlarmState). slice_index_or xs a.0 Idle) (same_after app s).0

    module _ (idle : alarm_state s a.0 ≡ Idle) where
      pub relative_is_accepted : (i c : ℕ) → kind_at app s ≡ kind.Call (call.Arm call.SetRelAlarm a i c) → 0 < i → i ≤ max_of app a.0 → is_cycle app a.0 c ≡ true → (instruction app s choice).notes.status ≡ Some status.Ok
      unfolding instruction
      relative_is_accepted i c is some within round = subst Ok (sym (effect_of app s choice active (kind.Call (call.Arm call.SetRelAlarm a i c)) is)) (relative app n a.0 (same_alarm ∙ idle) i c some within round)

      pub absolute_is_accepted : (v c : ℕ) → kind_at app s ≡ kind.Call (call.Arm call.SetAbsAlarm a v c) → v ≤ max_of app a.0 → is_cycle app a.0 c ≡ true → (instruction app s choice).notes.status ≡ Some status.Ok
      unfolding instruction
      absolute_is_accepted v c is within round = subst Ok (sym (effect_of app s choice active (kind.Call (call.Arm call.SetAbsAlarm a v c)) is)) (absolute app n a.0 (same_alarm ∙ idle) v c within round)

      pub idle_is_refused : (kind_at app s ≡ kind.Call (call.Alarm call.CancelAlarm a)) ⊎ (kind_at app s ≡ kind.Call (call.Alarm call.GetAlarm a)) → (instruction app s choice).notes.status ≡ Some status.NoFunc
      unfolding instruction
      idle_is_refused (inl is) = subst (λ (e : Effect). e.notes.status ≡ Some status.NoFunc) (sym (effect_of app s choice active (kind.Call (call.Alarm call.CancelAlarm a)) is)) (cancels_none app n a.0 (same_alarm ∙ idle))
      idle_is_refused (inr is) = subst (λ (e : Effect). e.notes.status ≡ Some status.NoFunc) (sym (effect_of app s choice active (kind.Call (call.Alarm call.GetAlarm a)) is)) (tells_none app n a.0 (same_alarm ∙ idle))

    module _ (at cycle : ℕ) (armed : alarm_state s a.0 ≡ Armed at cycle) where
      pub armed_is_refused : (i c : ℕ) → (kind_at app s ≡ kind.Call (call.Arm call.SetRelAlarm a i c)) ⊎ (kind_at app s ≡ kind.Call (call.Arm call.SetAbsAlarm a i c)) → (instruction app s choice).notes.status ≡ Some status.State
      unfolding instruction
      armed_is_refused i c (inl is) = subst (λ (e : Effect). e.notes.status ≡ Some status.State) (sym (effect_of app s choice active (kind.Call (call.Arm call.SetRelAlarm a i c)) is)) (relative_refused app n a.0 at cycle (same_alarm ∙ armed) i c)
      armed_is_refused i c (inr is) = subst (λ (e : Effect). e.notes.status ≡ Some status.State) (sym (effect_of app s choice active (kind.Call (call.Arm call.SetAbsAlarm a i c)) is)) (absolute_refused app n a.0 at cycle (same_alarm ∙ armed) i c)

      pub cancel_is_accepted : kind_at app s ≡ kind.Call (call.Alarm call.CancelAlarm a) → (instruction app s choice).notes.status ≡ Some status.Ok
      unfolding instruction
      cancel_is_accepted is = subst Ok (sym (effect_of app s choice active (kind.Call (call.Alarm call.CancelAlarm a)) is)) (cancels app n a.0 at cycle (same_alarm ∙ armed))

    -- an alarm that is due, and whose action is SetEvent
    module _ (t : TaskNo) (e : Mask) (on : IsDue app s a.0) (act : (the_alarm app a.0).action ≡ action.SetEvent t e) (ext : is_extended app t.0 ≡ true) (lives : is_suspended (task_state s t.0) ≡ false) where
      expired : (expire app n a.0).status ≡ Some status.Ok
      unfolding expire
      expired =
          let m : State = with_alarm n a.0 (rearmed app a.0 (alarm_state n a.0)) in
          either_by (λ (z : Answer). z.status ≡ Some status.Ok) (is_due_at (due (alarm_state n a.0)) (value_of app n a.0)) _ _
          (λ _. subst (λ (z : Action). (acted app m z).status ≡ Some status.Ok) (sym act) (event_taken app m t.0 e.0 ext (same_suspended s to s.processor t.0 ∙ lives)))
          (λ early. absurd (false≢true (sym early ∙ due_after app s a.0 to s.processor ∙ on)))

      pub alarm_sets : kind_at app s ≡ kind.Expire a → (instruction app s choice).notes.status ≡ Some status.Ok
      unfolding instruction
      alarm_sets is = subst Ok (sym (effect_of app s choice active (kind.Expire a) is)) expired

  same_mode : (p : Processor) → (moved_by s p to).mode ≡ s.mode
  same_mode processor.Halted = refl
  same_mode processor.Idle = refl
  same_mode (processor.Running t) = refl
  same_mode (processor.Interrupted k over) = refl

  pub mode_is : kind_at app s ≡ kind.Call (call.Plain call.GetActiveApplicationMode) → (instruction app s choice).notes.value ≡ Some (value.Mode s.mode)
  unfolding instruction
  mode_is is = subst (λ (e : Effect). e.notes.value ≡ Some (value.Mode s.mode)) (sym (effect_of app s choice active (kind.Call (call.Plain call.GetActiveApplicationMode)) is)) (ap (λ (m : ModeNo). Some (value.Mode m)) (same_mode s.processor))
