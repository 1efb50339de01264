-- A service that is refused changes nothing but its caller's place.
use Rattle.std.proofs.Common.{◌≡◌, ℕ, Bool, true, false, not, ◌||◌, ◌&&◌, nat_lt, nat_eq, refl, sym, subst, ap, ◌∙◌, Some, None}
use Rattle.std.proofs.lemmas.Bool.{false≢true}
use Rattle.std.specs.declared.option.Option.{Option}
use Rattle.osek_values.specs.declared.{numbers.{BlockNo.{BlockNo}, ResNo.{ResNo}}, status.Ask.{Ask}}
use Rattle.osek_values.specs.declared.status.Ask.TheVariants as ask
use Rattle.osek_standard.specs.declared.{app.App.{App}, block.Kind.{Kind}, call.Call.{Call}, state.{State.{State}, Processor.{Processor}, Caller.{Caller, TheVariants.{Nobody, Routine, Task}}}}
use Rattle.osek_standard.specs.declared.task_state.{Place.{Place}}
use Rattle.osek_standard.specs.{Apps.{is_cycle, is_extended, max_of, the_block}, TaskStates.{held, is_inside, is_suspended}, States.{alarm_state, caller, here, is_taken, is_that_task, task_of, task_state}, Internal.{IsInside, kept}}
use Rattle.osek_standard.specs.{Priority.{base_priority, ceiling}, Levels.{interrupt_ceiling, own_level}, Well.{IsActive}}
use Rattle.osek_standard.specs.Services.{Answer, activate_task, cancel_alarm, chain_task, clear_event, due, get_alarm, get_event, get_resource, get_resource_by, get_resource_isr, holds_some, is_full, is_idle, is_on_top}
use Rattle.osek_standard.specs.Services.{release_resource, release_resource_by, release_resource_isr, schedule, set_abs_alarm, set_event, set_rel_alarm, share, stack_of_source, terminate_task, time_left, wait_event, waits_for}
use Rattle.osek_standard.specs.Effects.{Effect, asked_by, asks_as, effect, effect_at, goes_on_unless_left, is_error, moved_by, moved_to, noted, place_at, row, task_at}
use Rattle.osek_standard.specs.Dispatch.{instruction, outcome_by, outcome_of, settled}
use Rattle.osek_standard.specs.declared.block.Kind.TheVariants as kind
use Rattle.osek_standard.specs.declared.state.Processor.TheVariants as processor
use Rattle.osek_standard.proofs.{Callers.{moved_processor}, FlagLaws.{moved_flag}, InsideLaws.{kept_is_same}}
use Rattle.kernel_guarantees.specs.Scheduling.{kind_at}
use Rattle.kernel_guarantees.proofs.{LockedSteps.{effect_is}, Lookups.{put_task}, Serving.{asks_no, either_by}}
use Rattle.kernel_guarantees.proofs.CallNames as call

module _ (app : App) (m : State) where
  -- where it is refused, the state is as it was
  abbrev Refuses : Answer → Type 0
  Refuses a = is_error a.status ≡ true → (a.state ≡ m) × (a.ask ≡ ask.No)

  never : {X : Type 0} → false ≡ true → X
  never e = absurd (false≢true e)

  activating : (t : ℕ) → Refuses (activate_task app m t)
  unfolding activate_task
  activating t = either_by Refuses (is_full app m t) _ _ (λ _ _. (refl, refl)) (λ _ e. never e)

  ending : (c : Caller) → Refuses (terminate_task app m c)
  unfolding terminate_task
  ending Nobody = λ e. never e
  ending (Routine k) = λ e. (refl, refl)
  ending (Task c) = either_by Refuses (holds_some m c.0) _ _ (λ _ _. (refl, refl)) (λ _ e. never e)

  chaining : (c : Caller) (t : ℕ) → Refuses (chain_task app m c t)
  unfolding chain_task
  chaining Nobody t = λ e. never e
  chaining (Routine k) t = λ e. (refl, refl)
  chaining (Task c) t = either_by Refuses (holds_some m c.0) _ _ (λ _ _. (refl, refl)) (λ _. either_by Refuses (not (nat_eq t c.0) && is_full app m t) _ _ (λ _ _. (refl, refl)) (λ _ e. never e))

  scheduling : (c : Caller) → Refuses (schedule m c)
  unfolding schedule
  scheduling Nobody = λ e. never e
  scheduling (Routine k) = λ e. (refl, refl)
  scheduling (Task c) = either_by Refuses (holds_some m c.0) _ _ (λ _ _. (refl, refl)) (λ _ e. never e)

  taking : (c : Caller) (r : ResNo) → Refuses (get_resource_by app m c r)
  unfolding get_resource get_resource_isr
  taking Nobody r = λ e. never e
  taking (Routine k) r = either_by Refuses (is_taken m r.0 || nat_lt (interrupt_ceiling app r.0) (own_level app k.0)) _ _ (λ _ _. (refl, refl)) (λ _ e. never e)
  taking (Task c) r = either_by Refuses (is_taken m r.0 || nat_lt (ceiling app r.0) (base_priority app c.0)) _ _ (λ _ _. (refl, refl)) (λ _ e. never e)

  releasing : (c : Caller) (r : ResNo) → Refuses (release_resource_by app m c r)
  unfolding release_resource release_resource_isr
  releasing Nobody r = λ e. never e
  releasing (Routine k) r = either_by Refuses (nat_lt (interrupt_ceiling app r.0) (own_level app k.0)) _ _ (λ _ _. (refl, refl))
      (λ _. either_by Refuses (is_on_top r.0 (stack_of_source app m k.0)) _ _ (λ _ e. never e) (λ _ _. (refl, refl)))
  releasing (Task c) r = either_by Refuses (nat_lt (ceiling app r.0) (base_priority app c.0)) _ _ (λ _ _. (refl, refl))
      (λ _. either_by Refuses (is_on_top r.0 (held (task_state m c.0))) _ _ (λ _ e. never e) (λ _ _. (refl, refl)))

  setting : (t e : ℕ) → Refuses (set_event app m t e)
  unfolding set_event
  setting t e = either_by Refuses (not (is_extended app t)) _ _ (λ _ _. (refl, refl)) (λ _. either_by Refuses (is_suspended (task_state m t)) _ _ (λ _ _. (refl, refl))
      (λ _. either_by Refuses (waits_for app m t e) _ _ (λ _ f. never f) (λ _ f. never f)))

  clearing : (c : Caller) (e : ℕ) → Refuses (clear_event app m c e)
  unfolding clear_event
  clearing Nobody e = λ f. never f
  clearing (Routine k) e = λ f. (refl, refl)
  clearing (Task c) e = either_by Refuses (not (is_extended app c.0)) _ _ (λ _ _. (refl, refl)) (λ _ f. never f)

  reading : (t : ℕ) → Refuses (get_event app m t)
  unfolding get_event
  reading t = either_by Refuses (not (is_extended app t)) _ _ (λ _ _. (refl, refl)) (λ _. either_by Refuses (is_suspended (task_state m t)) _ _ (λ _ _. (refl, refl)) (λ _ e. never e))

  arming_relative : (a i c : ℕ) → Refuses (set_rel_alarm app m a i c)
  unfolding set_rel_alarm
  arming_relative a i c = either_by Refuses (not (is_idle (alarm_state m a))) _ _ (λ _ _. (refl, refl))
      (λ _. either_by Refuses (nat_eq i 0 || nat_lt (max_of app a) i || not (is_cycle app a c)) _ _ (λ _ _. (refl, refl)) (λ _ e. never e))

  arming_absolute : (a v c : ℕ) → Refuses (set_abs_alarm app m a v c)
  unfolding set_abs_alarm
  arming_absolute a v c = either_by Refuses (not (is_idle (alarm_state m a))) _ _ (λ _ _. (refl, refl))
      (λ _. either_by Refuses (nat_lt (max_of app a) v || not (is_cycle app a c)) _ _ (λ _ _. (refl, refl)) (λ _ e. never e))

  cancelling : (a : ℕ) → Refuses (cancel_alarm app m a)
  unfolding cancel_alarm
  cancelling a = either_by Refuses (is_idle (alarm_state m a)) _ _ (λ _ _. (refl, refl)) (λ _ e. never e)

  time_of : (a : ℕ) (o : Option ℕ) → Refuses (time_left app m a o)
  time_of a None = λ e. (refl, refl)
  time_of a (Some at) = λ e. never e

  asking_time : (a : ℕ) → Refuses (get_alarm app m a)
  unfolding get_alarm
  asking_time a = time_of a (due (alarm_state m a))

  waiting : (c : Caller) (e : ℕ) → Refuses (wait_event app m c e)
  unfolding wait_event
  waiting Nobody e = λ f. never f
  waiting (Routine k) e = λ f. (refl, refl)
  waiting (Task c) e = either_by Refuses (not (is_extended app c.0)) _ _ (λ _ _. (refl, refl)) (λ _. either_by Refuses (holds_some m c.0) _ _ (λ _ _. (refl, refl))
      (λ _. either_by Refuses (share (task_state m c.0).events.0 e) _ _ (λ _ f. never f) (λ _ f. never f)))

  serving : (c : Caller) (k : Call) → Refuses (row app m c k)
  serving c (call.Task call.ActivateTask t) = activating t.0
  serving c (call.Plain call.TerminateTask) = ending c
  serving c (call.Task call.ChainTask t) = chaining c t.0
  serving c (call.Plain call.Schedule) = scheduling c
  serving c (call.Resource call.GetResource r) = taking c r
  serving c (call.Resource call.ReleaseResource r) = releasing c r
  serving c (call.SetEvent t e) = setting t.0 e.0
  serving c (call.Mask call.ClearEvent e) = clearing c e.0
  serving c (call.Task call.GetEvent t) = reading t.0
  serving c (call.Mask call.WaitEvent e) = waiting c e.0
  serving c (call.Arm call.SetRelAlarm a i y) = arming_relative a.0 i y
  serving c (call.Arm call.SetAbsAlarm a i y) = arming_absolute a.0 i y
  serving c (call.Alarm call.CancelAlarm a) = cancelling a.0
  serving c (call.Alarm call.GetAlarm a) = asking_time a.0
  serving c (call.Plain call.GetTaskId) = λ e. never e
  serving c (call.Task call.GetTaskState t) = λ e. never e
  serving c (call.Plain call.GetActiveApplicationMode) = λ e. never e
  serving c call.ShutdownOs = λ e. never e
  serving c (call.Lock l) = λ e. never e

  waiting_on : (next : BlockNo) (c : Caller) (e : ℕ) → is_error (goes_on_unless_left next (wait_event app m c e)).status ≡ true
      → ((goes_on_unless_left next (wait_event app m c e)).state ≡ moved_to m next) × ((goes_on_unless_left next (wait_event app m c e)).ask ≡ ask.No)
  unfolding wait_event
  waiting_on next Nobody e = λ f. never f
  waiting_on next (Routine k) e = λ f. (refl, refl)
  waiting_on next (Task c) e =
      let D : Answer → Type 0 = λ a. is_error (goes_on_unless_left next a).status ≡ true → ((goes_on_unless_left next a).state ≡ moved_to m next) × ((goes_on_unless_left next a).ask ≡ ask.No) in
      either_by D (not (is_extended app c.0)) _ _ (λ _ _. (refl, refl)) (λ _. either_by D (holds_some m c.0) _ _ (λ _ _. (refl, refl))
      (λ _. either_by D (share (task_state m c.0).events.0 e) _ _ (λ _ f. never f) (λ _ f. never f)))

module _ (app : App) (s : State) where
  abbrev after : State
  after = moved_to s (the_block app (here s).block.0).next

  abbrev IsRefused : Effect → Type 0
  IsRefused e = is_error e.notes.status ≡ true → (e.state ≡ after) × (e.ask ≡ ask.No)

  by_row : (k : Call) → Refuses app after (row app after (caller s.processor) k) → IsRefused (noted app (asks_as app (caller s.processor) (kind.Call k) (row app after (caller s.processor) k)))
  by_row k h f = let r = h f in (r.0, ap (asked_by app (caller s.processor) (kind.Call k)) r.1 ∙ asks_no app (caller s.processor) (kind.Call k))

  refusing : (choice : Bool) (k : Call) → IsRefused (effect_at app s choice (here s) (the_block app (here s).block.0) (kind.Call k))
  refusing choice (call.Mask call.WaitEvent e) = waiting_on app s (the_block app (here s).block.0).next (caller s.processor) e.0
  refusing choice call.ShutdownOs = λ f. absurd (false≢true f)
  refusing choice (call.Mask call.ClearEvent e) = by_row (call.Mask call.ClearEvent e) (clearing app after (caller s.processor) e.0)
  refusing choice k = by_row k (serving app after (caller s.processor) k)

  effect_refused : (choice : Bool) (k : Call) → IsActive s.processor → kind_at app s ≡ kind.Call k → IsRefused (effect app s choice)
  effect_refused choice k active is =
      subst IsRefused (sym (effect_is app s choice active ∙ ap (λ (x : Kind). effect_at app s choice (here s) (the_block app (here s).block.0) x) is)) (refusing choice k)

  -- a move leaves who is inside so
  same_inside : (to : Place) (p : Processor) (t : ℕ) → is_inside (task_state (moved_by s p to) t) ≡ is_inside (task_state s t)
  same_inside to processor.Halted t = refl
  same_inside to processor.Idle t = refl
  same_inside to (processor.Running c) t = put_task s c.0 (task_at (task_state s c.0) to) (λ v y. is_inside y ≡ is_inside (task_state s v)) (moved_flag to (task_state s c.0).activity) (λ v. refl) t
  same_inside to (processor.Interrupted k over) t = refl

  moved_inside : IsInside app s → (to : Place) → IsInside app (moved_by s s.processor to)
  moved_inside h to = record {
    named = λ t e. h.named t (sym (same_inside to s.processor t) ∙ e);
    current = λ t e. same_inside to s.processor t ∙ h.current t (ap (λ (p : Processor). is_that_task (task_of p) t) (sym (moved_processor s to s.processor)) ∙ e);
  }

  settled_same : IsInside app s → (e : Effect) → (e.state ≡ after) × (e.ask ≡ ask.No) → settled app e.state (outcome_of app e) ≡ after
  settled_same h e r = ap (λ (a : Ask). settled app e.state (outcome_by app e.state a)) r.1 ∙ ap (kept app) r.0 ∙ kept_is_same app after (moved_inside h (place_at (the_block app (here s).block.0).next 0))

  pub refused_stays : (choice : Bool) (k : Call) → IsInside app s → IsActive s.processor → kind_at app s ≡ kind.Call k → is_error (instruction app s choice).notes.status ≡ true → (instruction app s choice).state ≡ after
  unfolding instruction
  refused_stays choice k h active is e = settled_same h (effect app s choice) (effect_refused choice k active is e)
