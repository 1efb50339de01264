-- What CancelAlarm, a count and an alarm that expires do.
use Rattle.std.proofs.Common.{◌≡◌, ℕ, ◌+◌, ◌<◌, Bool, true, false, cond, nat_eq, List, length, refl, sym, subst, ap, ◌∙◌, arith, Some, get_or-set_same}
use Rattle.std.proofs.lemmas.Bool.{false≢true, ltb-true}
use Rattle.std.specs.Prelude.{slice_index_or}
use Rattle.osek_values.specs.declared.numbers.{AlarmNo.{AlarmNo}, SourceNo.{SourceNo}, TaskNo.{TaskNo}}
use Rattle.osek_values.specs.declared.status.Status.TheVariants as status
use Rattle.oil_system.specs.declared.objects.Action.{Action}
use Rattle.oil_system.specs.declared.objects.Action.TheVariants as action
use Rattle.osek_standard.specs.declared.{app.App.{App}, state.{State.{State}, AlarmState.{AlarmState, TheVariants.{Idle}}, Processor.{Processor}, Caller.{Caller, TheVariants.{Routine}}}}
use Rattle.osek_standard.specs.declared.task_state.{Place.{Place}, Activity.{Activity, TheVariants.{Suspended, Live, Waiting}}}
use Rattle.osek_standard.specs.{Apps.{is_counter, the_alarm, the_block, the_counter, the_task}, States.{alarm_state, caller, counter_value, here, task_state, with_alarm}}
use Rattle.osek_standard.specs.Services.{Answer, acted, activate_task, cancel_alarm, count_up, counted_by, due, expire, is_due_at, is_full, is_full_by, is_idle, rearmed, value_of}
use Rattle.osek_standard.specs.{Effects.{Effect, effect, moved_by, place_at, standing_at, task_at}, Well.{IsActive, Well}, Dispatch.{instruction, outcome_of}}
use Rattle.osek_standard.specs.declared.block.Kind.TheVariants as kind
use Rattle.osek_standard.specs.declared.state.Processor.TheVariants as processor
use Rattle.kernel_guarantees.specs.{Events.{IsDue}, Scheduling.{kind_at}}
use Rattle.kernel_guarantees.proofs.{ClockMoves.{after, same_after, settled_same}, EventReleases.{due_after}, LockedSteps.{effect_of}, Lookups.{put_task}, Serving.{either_by}}
use Rattle.kernel_guarantees.proofs.CallNames as call

-- a move leaves who is full
moved_full : (n : ℕ) (to : Place) (a : Activity) → is_full_by n (standing_at a to) ≡ is_full_by n a
moved_full n to Suspended = refl
moved_full n to (Live x) = refl
moved_full n to (Waiting b) = refl

pub same_full : (app : App) (s : State) (to : Place) (p : Processor) (t : ℕ) → is_full app (moved_by s p to) t ≡ is_full app s t
same_full app s to processor.Halted t = refl
same_full app s to processor.Idle t = refl
same_full app s to (processor.Running c) t = put_task s c.0 (task_at (task_state s c.0) to)
    (λ v z. is_full_by (the_task app v).activation z.activity ≡ is_full_by (the_task app v).activation (task_state s v).activity)
    (moved_full (the_task app c.0).activation to (task_state s c.0).activity) (λ v. refl) t
same_full app s to (processor.Interrupted k over) t = refl

module _ (app : App) (s : State) (w : Well app s) (active : IsActive s.processor) (choice : Bool) where
  abbrev m : State
  m = after app s

  -- CancelAlarm
  module _ (a : AlarmNo) (known : a.0 < length app.alarms) where
    abbrev Ends : Answer → Type 0
    Ends z = z.status ≡ Some status.Ok → alarm_state z.state a.0 ≡ Idle

    in_range : a.0 < length m.alarms
    in_range = omega (arith, known, w.alarms_len, ap (λ (xs : List AlarmState). length xs) (same_after app s).0)

    ends : Ends (cancel_alarm app m a.0)
    unfolding cancel_alarm
    ends = either_by Ends (is_idle (alarm_state m a.0)) _ _ (λ _ e. absurd (cc (e))) (λ _ _. get_or-set_same m.alarms a.0 Idle Idle in_range)

    abbrev Ended : Effect → Type 0
    Ended e = e.notes.status ≡ Some status.Ok → alarm_state e.state a.0 ≡ Idle

    pub cancelled_is_idle : kind_at app s ≡ kind.Call (call.Alarm call.CancelAlarm a) → (instruction app s choice).notes.status ≡ Some status.Ok → alarm_state (instruction app s choice).state a.0 ≡ Idle
    unfolding instruction
    cancelled_is_idle is ok =
        let e = effect app s choice in
        ap (λ (xs : List AlarmState). slice_index_or xs a.0 Idle) (settled_same app s e.state (outcome_of app e)).0 ∙ subst Ended (sym (effect_of app s choice active (kind.Call (call.Alarm call.CancelAlarm a)) is)) ends ok

  -- a count, of a counter's tick routine
  module _ (k : SourceNo) (calls : caller s.processor ≡ Routine k) (counter : is_counter app k.0 ≡ true) where
    abbrev next : ℕ → ℕ
    next v = cond (nat_eq v (the_counter app k.0).max) 0 (v + 1)

    known_counter : k.0 < length m.counters
    known_counter = let h = ltb-true k.0 (length app.counters) counter in omega (arith, h, w.counters_len, ap (λ (xs : List ℕ). length xs) (same_after app s).1)

    counted : counter_value (count_up app m k.0) k.0 ≡ next (counter_value m k.0)
    unfolding count_up
    counted = get_or-set_same m.counters k.0 (next (counter_value m k.0)) 0 known_counter

    counts : counter_value (counted_by app m (Routine k)) k.0 ≡ next (counter_value m k.0)
    counts = either_by (λ (r : State). counter_value r k.0 ≡ next (counter_value m k.0)) (is_counter app k.0) _ _ (λ _. counted) (λ no. absurd (false≢true (sym no ∙ counter)))

    pub counter_counts : kind_at app s ≡ kind.CountUp → counter_value (instruction app s choice).state k.0 ≡ next (counter_value s k.0)
    unfolding instruction
    counter_counts is =
        let e = effect app s choice in
        ap (λ (xs : List ℕ). slice_index_or xs k.0 0) (settled_same app s e.state (outcome_of app e)).1
        ∙ subst (λ (x : Effect). counter_value x.state k.0 ≡ next (counter_value m k.0)) (sym (effect_of app s choice active kind.CountUp is))
        (subst (λ (c : Caller). counter_value (counted_by app m c) k.0 ≡ next (counter_value m k.0)) (sym calls) counts)
        ∙ ap (λ (xs : List ℕ). next (slice_index_or xs k.0 0)) (same_after app s).1

  -- an alarm that expires with the action ActivateTask
  module _ (a : AlarmNo) (t : TaskNo) (on : IsDue app s a.0) (act : (the_alarm app a.0).action ≡ action.ActivateTask t) (room : is_full app s t.0 ≡ false) where
    activates : (n : State) → is_full app n t.0 ≡ false → (activate_task app n t.0).status ≡ Some status.Ok
    unfolding activate_task
    activates n free = either_by (λ (z : Answer). z.status ≡ Some status.Ok) (is_full app n t.0) _ _ (λ full. absurd (false≢true (sym free ∙ full))) (λ _. refl)

    free_after : is_full app m t.0 ≡ false
    free_after = same_full app s (place_at (the_block app (here s).block.0).next 0) s.processor t.0 ∙ room

    on_after : is_due_at (due (alarm_state m a.0)) (value_of app m a.0) ≡ true
    on_after = due_after app s a.0 (place_at (the_block app (here s).block.0).next 0) s.processor ∙ on

    expired : (expire app m a.0).status ≡ Some status.Ok
    unfolding expire
    expired =
        let n : State = with_alarm m a.0 (rearmed app a.0 (alarm_state m a.0)) in
        either_by (λ (z : Answer). z.status ≡ Some status.Ok) (is_due_at (due (alarm_state m a.0)) (value_of app m a.0)) _ _
        (λ _. subst (λ (z : Action). (acted app n z).status ≡ Some status.Ok) (sym act) (activates n free_after)) (λ early. absurd (false≢true (sym early ∙ on_after)))

    pub alarm_activates : kind_at app s ≡ kind.Expire a → (instruction app s choice).notes.status ≡ Some status.Ok
    unfolding instruction
    alarm_activates is = subst (λ (e : Effect). e.notes.status ≡ Some status.Ok) (sym (effect_of app s choice active (kind.Expire a) is)) expired
