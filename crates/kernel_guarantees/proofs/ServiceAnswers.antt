-- What GetTaskID, GetTaskState, GetEvent and GetAlarm give back.
use Rattle.std.proofs.Common.{◌≡◌, ℕ, Bool, not, List, refl, sym, subst, ap, ◌∙◌, Some}
use Rattle.std.specs.{Prelude.{slice_index_or}, declared.option.Option.{Option}}
use Rattle.osek_values.specs.declared.{mask.Mask.{Mask}, notes.Value.{Value}, numbers.{AlarmNo.{AlarmNo}, TaskNo.{TaskNo}}, status.Letter.{Letter}}
use Rattle.osek_values.specs.declared.status.Status.TheVariants as status
use Rattle.osek_values.specs.declared.notes.Value.TheVariants as value
use Rattle.osek_standard.specs.declared.{app.App.{App}, state.{State.{State}, AlarmState.{AlarmState, TheVariants.{Idle, Armed}}, Processor.{Processor}}}
use Rattle.osek_standard.specs.declared.task_state.{Place.{Place}, Activity.{Activity, TheVariants.{Suspended, Live, Waiting}}}
use Rattle.osek_standard.specs.{Apps.{is_extended, max_of, the_block}, TaskStates.{is_suspended}, States.{alarm_state, here, letter_in, letter_of, task_of, task_state}}
use Rattle.osek_standard.specs.Services.{Answer, due, get_alarm, get_event, ticks_left, time_left}
use Rattle.osek_standard.specs.{Effects.{Effect, moved_by, place_at, standing_at, task_at}, Well.{IsActive}, Dispatch.{instruction}}
use Rattle.osek_standard.specs.declared.block.Kind.TheVariants as kind
use Rattle.osek_standard.specs.declared.state.Processor.TheVariants as processor
use Rattle.kernel_guarantees.specs.{Alarms.{counter_of}, Scheduling.{kind_at}}
use Rattle.kernel_guarantees.proofs.{ClockMoves.{after, same_after}, CountsLeft.{left}, EventSends.{moving}, LockedSteps.{effect_of}, Lookups.{put_task}, Onward.{onward_processor}, Serving.{either_by}}
use Rattle.kernel_guarantees.proofs.CallNames as call

moved_letter : (p : Processor) (t : ℕ) (to : Place) (a : Activity) → letter_in p t (standing_at a to) ≡ letter_in p t a
moved_letter p t to Suspended = refl
moved_letter p t to (Live x) = refl
moved_letter p t to (Waiting b) = refl

-- a move leaves each task's state
same_letter : (s : State) (p : Processor) (to : Place) (q : Processor) (t : ℕ) → letter_of p t (task_state (moved_by s q to) t) ≡ letter_of p t (task_state s t)
same_letter s p to processor.Halted t = refl
same_letter s p to processor.Idle t = refl
same_letter s p to (processor.Running c) t = put_task s c.0 (task_at (task_state s c.0) to) (λ v z. letter_of p v z ≡ letter_of p v (task_state s v))
    (moved_letter p c.0 to (task_state s c.0).activity) (λ v. refl) t
same_letter s p to (processor.Interrupted k over) t = refl

module _ (app : App) (s : State) (choice : Bool) (active : IsActive s.processor) where
  abbrev n : State
  n = after app s

  abbrev to : Place
  to = place_at (the_block app (here s).block.0).next 0

  abbrev noted_value : Option Value
  noted_value = (instruction app s choice).notes.value

  abbrev Notes : Value → Effect → Type 0
  Notes v e = e.notes.value ≡ Some v

  abbrev NotesIfOk : Value → Effect → Type 0
  NotesIfOk v e = e.notes.status ≡ Some status.Ok → e.notes.value ≡ Some v

  pub task_id_is : kind_at app s ≡ kind.Call (call.Plain call.GetTaskId) → noted_value ≡ Some (value.Task (task_of s.processor))
  unfolding instruction
  task_id_is is = subst (Notes (value.Task (task_of s.processor))) (sym (effect_of app s choice active (kind.Call (call.Plain call.GetTaskId)) is))
      (ap (λ (p : Processor). Some (value.Task (task_of p))) (onward_processor app s))

  pub task_state_is : (t : TaskNo) → kind_at app s ≡ kind.Call (call.Task call.GetTaskState t) → noted_value ≡ Some (value.State (letter_of s.processor t.0 (task_state s t.0)))
  unfolding instruction
  task_state_is t is = subst (Notes (value.State (letter_of s.processor t.0 (task_state s t.0)))) (sym (effect_of app s choice active (kind.Call (call.Task call.GetTaskState t)) is))
      (ap (λ (p : Processor). Some (value.State (letter_of p t.0 (task_state n t.0)))) (onward_processor app s)
      ∙ ap (λ (l : Letter). Some (value.State l)) (same_letter s s.processor to s.processor t.0))

  abbrev Tells : Value → Answer → Type 0
  Tells v a = a.status ≡ Some status.Ok → a.value ≡ Some v

  told_events : (t : ℕ) → Tells (value.Mask (task_state n t).events) (get_event app n t)
  unfolding get_event
  told_events t = let D : Answer → Type 0 = Tells (value.Mask (task_state n t).events) in
      either_by D (not (is_extended app t)) _ _ (λ _ f. absurd (cc (f))) (λ _. either_by D (is_suspended (task_state n t)) _ _ (λ _ f. absurd (cc (f))) (λ _ _. refl))

  pub events_are : (t : TaskNo) → kind_at app s ≡ kind.Call (call.Task call.GetEvent t) → (instruction app s choice).notes.status ≡ Some status.Ok → noted_value ≡ Some (value.Mask (task_state s t.0).events)
  unfolding instruction
  events_are t is ok = subst (NotesIfOk (value.Mask (task_state n t.0).events)) (sym (effect_of app s choice active (kind.Call (call.Task call.GetEvent t)) is)) (told_events t.0) ok
      ∙ ap (λ (m : Mask). Some (value.Mask m)) (moving app s t.0 to s.processor).events

  told_ticks : (a at cycle : ℕ) → alarm_state n a ≡ Armed at cycle → (get_alarm app n a).value ≡ Some (value.Number (ticks_left app n a at))
  unfolding get_alarm
  told_ticks a at cycle e = ap (λ (x : AlarmState). (time_left app n a (due x)).value) e

  pub ticks_are : (a : AlarmNo) (at cycle : ℕ) → alarm_state s a.0 ≡ Armed at cycle → kind_at app s ≡ kind.Call (call.Alarm call.GetAlarm a) → noted_value ≡ Some (value.Number (ticks_left app s a.0 at))
  unfolding instruction
  ticks_are a at cycle e is =
      let same = same_after app s in
      subst (Notes (value.Number (ticks_left app s a.0 at))) (sym (effect_of app s choice active (kind.Call (call.Alarm call.GetAlarm a)) is))
      (told_ticks a.0 at cycle (ap (λ (xs : List AlarmState). slice_index_or xs a.0 Idle) same.0 ∙ e)
      ∙ ap (λ (xs : List ℕ). Some (value.Number (left (max_of app a.0) (slice_index_or xs (counter_of app a.0) 0) at))) same.1)
