-- The services of tasks leave the sources as they are.
use Rattle.std.proofs.Common.{◌≡◌, ℕ, refl, Some, None, not, ◌||◌, ◌&&◌, nat_lt, nat_eq}
use Rattle.std.specs.declared.option.Option.{Option}
use Rattle.osek_values.specs.declared.numbers.{ResNo.{ResNo}, TaskNo.{TaskNo}}
use Rattle.oil_system.specs.declared.objects.Action.{Action}
use Rattle.oil_system.specs.declared.objects.Action.TheVariants as action
use Rattle.osek_standard.specs.declared.{app.App.{App}, block.Kind.{Kind}, call.Call.{Call}, state.{State.{State}, Caller.TheVariants.{Task}}}
use Rattle.osek_standard.specs.{Apps.{the_alarm, is_extended, is_cycle, max_of}, TaskStates.{held, is_suspended}, States.{alarm_state, is_taken, task_state, with_alarm}}
use Rattle.osek_standard.specs.Priority.{base_priority, ceiling}
use Rattle.osek_standard.specs.Services.{Answer, acted, activate_task, cancel_alarm, chain_task, clear_event, due, expire, get_alarm, get_event, get_resource, holds_some}
use Rattle.osek_standard.specs.Services.{is_due_at, is_full, is_idle, is_on_top, rearmed, release_resource, schedule, set_abs_alarm, set_event, set_rel_alarm, share}
use Rattle.osek_standard.specs.Services.{terminate_task, time_left, value_of, wait_event, waits_for}
use Rattle.osek_standard.specs.Effects.{called, row}
use Rattle.osek_standard.specs.CallNames as call
use Rattle.osek_standard.specs.declared.block.Kind.TheVariants as kind
use Rattle.osek_standard.proofs.BoolLaws.{either_way}

abbrev pub HasSourcesOf : State → Answer → Type 0
HasSourcesOf s a = a.state.sources ≡ s.sources

module _ (app : App) (s : State) where
  activate_leaves : (t : ℕ) → HasSourcesOf s (activate_task app s t)
  unfolding activate_task
  activate_leaves t = either_way (HasSourcesOf s) (is_full app s t) _ _ refl refl

  terminate_leaves : (c : TaskNo) → HasSourcesOf s (terminate_task app s (Task c))
  unfolding terminate_task
  terminate_leaves c = either_way (HasSourcesOf s) (holds_some s c.0) _ _ refl refl

  chain_leaves : (c : TaskNo) (t : ℕ) → HasSourcesOf s (chain_task app s (Task c) t)
  unfolding chain_task
  chain_leaves c t = either_way (HasSourcesOf s) (holds_some s c.0) _ _ refl (either_way (HasSourcesOf s) (not (nat_eq t c.0) && is_full app s t) _ _ refl refl)

  schedule_leaves : (c : TaskNo) → HasSourcesOf s (schedule s (Task c))
  unfolding schedule
  schedule_leaves c = either_way (HasSourcesOf s) (holds_some s c.0) _ _ refl refl

  get_resource_leaves : (c : ℕ) (r : ResNo) → HasSourcesOf s (get_resource app s c r)
  unfolding get_resource
  get_resource_leaves c r = either_way (HasSourcesOf s) (is_taken s r.0 || nat_lt (ceiling app r.0) (base_priority app c)) _ _ refl refl

  release_resource_leaves : (c : ℕ) (r : ResNo) → HasSourcesOf s (release_resource app s c r)
  unfolding release_resource
  release_resource_leaves c r =
      either_way (HasSourcesOf s) (nat_lt (ceiling app r.0) (base_priority app c)) _ _ refl (either_way (HasSourcesOf s) (is_on_top r.0 (held (task_state s c))) _ _ refl refl)

  set_event_leaves : (t m : ℕ) → HasSourcesOf s (set_event app s t m)
  unfolding set_event
  set_event_leaves t m = either_way (HasSourcesOf s) (not (is_extended app t)) _ _ refl (either_way (HasSourcesOf s) (is_suspended (task_state s t)) _ _ refl (either_way (HasSourcesOf s) (waits_for app s t m) _ _ refl refl))

  clear_event_leaves : (c : TaskNo) (m : ℕ) → HasSourcesOf s (clear_event app s (Task c) m)
  unfolding clear_event
  clear_event_leaves c m = either_way (HasSourcesOf s) (not (is_extended app c.0)) _ _ refl refl

  get_event_leaves : (t : ℕ) → HasSourcesOf s (get_event app s t)
  unfolding get_event
  get_event_leaves t = either_way (HasSourcesOf s) (not (is_extended app t)) _ _ refl (either_way (HasSourcesOf s) (is_suspended (task_state s t)) _ _ refl refl)

  wait_event_leaves : (c : TaskNo) (m : ℕ) → HasSourcesOf s (wait_event app s (Task c) m)
  unfolding wait_event
  wait_event_leaves c m =
      either_way (HasSourcesOf s) (not (is_extended app c.0)) _ _ refl
      (either_way (HasSourcesOf s) (holds_some s c.0) _ _ refl (either_way (HasSourcesOf s) (share (task_state s c.0).events.0 m) _ _ refl refl))

  set_rel_alarm_leaves : (a i c : ℕ) → HasSourcesOf s (set_rel_alarm app s a i c)
  unfolding set_rel_alarm
  set_rel_alarm_leaves a i c = either_way (HasSourcesOf s) (not (is_idle (alarm_state s a))) _ _ refl (either_way (HasSourcesOf s) (nat_eq i 0 || nat_lt (max_of app a) i || not (is_cycle app a c)) _ _ refl refl)

  set_abs_alarm_leaves : (a i c : ℕ) → HasSourcesOf s (set_abs_alarm app s a i c)
  unfolding set_abs_alarm
  set_abs_alarm_leaves a i c = either_way (HasSourcesOf s) (not (is_idle (alarm_state s a))) _ _ refl (either_way (HasSourcesOf s) (nat_lt (max_of app a) i || not (is_cycle app a c)) _ _ refl refl)

  cancel_alarm_leaves : (a : ℕ) → HasSourcesOf s (cancel_alarm app s a)
  unfolding cancel_alarm
  cancel_alarm_leaves a = either_way (HasSourcesOf s) (is_idle (alarm_state s a)) _ _ refl refl

  time_left_leaves : (a : ℕ) (o : Option ℕ) → HasSourcesOf s (time_left app s a o)
  time_left_leaves a None = refl
  time_left_leaves a (Some at) = refl

  get_alarm_leaves : (a : ℕ) → HasSourcesOf s (get_alarm app s a)
  unfolding get_alarm
  get_alarm_leaves a = time_left_leaves a (due (alarm_state s a))

acted_leaves : (app : App) (s : State) (x : Action) → HasSourcesOf s (acted app s x)
acted_leaves app s (action.ActivateTask t) = activate_leaves app s t.0
acted_leaves app s (action.SetEvent t m) = set_event_leaves app s t.0 m.0

expire_leaves : (app : App) (s : State) (a : ℕ) → HasSourcesOf s (expire app s a)
unfolding expire
expire_leaves app s a = either_way (HasSourcesOf s) (is_due_at (due (alarm_state s a)) (value_of app s a)) _ _ (acted_leaves app (with_alarm s a (rearmed app a (alarm_state s a))) (the_alarm app a).action) refl

-- each row of a task leaves the sources as they are
row_leaves : (app : App) (s : State) (c : TaskNo) (k : Call) → HasSourcesOf s (row app s (Task c) k)
row_leaves app s c (call.Task call.ActivateTask t) = activate_leaves app s t.0
row_leaves app s c (call.Plain call.TerminateTask) = terminate_leaves app s c
row_leaves app s c (call.Task call.ChainTask t) = chain_leaves app s c t.0
row_leaves app s c (call.Plain call.Schedule) = schedule_leaves app s c
row_leaves app s c (call.Resource call.GetResource r) = get_resource_leaves app s c.0 r
row_leaves app s c (call.Resource call.ReleaseResource r) = release_resource_leaves app s c.0 r
row_leaves app s c (call.SetEvent t m) = set_event_leaves app s t.0 m.0
row_leaves app s c (call.Mask call.ClearEvent m) = clear_event_leaves app s c m.0
row_leaves app s c (call.Task call.GetEvent t) = get_event_leaves app s t.0
row_leaves app s c (call.Mask call.WaitEvent m) = wait_event_leaves app s c m.0
row_leaves app s c (call.Arm call.SetRelAlarm a i y) = set_rel_alarm_leaves app s a.0 i y
row_leaves app s c (call.Arm call.SetAbsAlarm a i y) = set_abs_alarm_leaves app s a.0 i y
row_leaves app s c (call.Alarm call.CancelAlarm a) = cancel_alarm_leaves app s a.0
row_leaves app s c (call.Alarm call.GetAlarm a) = get_alarm_leaves app s a.0
row_leaves app s c (call.Plain call.GetTaskId) = refl
row_leaves app s c (call.Task call.GetTaskState t) = refl
row_leaves app s c (call.Plain call.GetActiveApplicationMode) = refl
row_leaves app s c call.ShutdownOs = refl
row_leaves app s c (call.Lock l) = refl

pub called_leaves : (app : App) (s : State) (c : TaskNo) (k : Kind) → HasSourcesOf s (called app s (Task c) k)
called_leaves app s c (kind.Work n) = refl
called_leaves app s c (kind.Choice o) = refl
called_leaves app s c kind.Loop = refl
called_leaves app s c (kind.Call k) = row_leaves app s c k
called_leaves app s c kind.TaskEnd = refl
called_leaves app s c kind.IsrEnd = refl
called_leaves app s c kind.CountUp = refl
called_leaves app s c (kind.Expire a) = expire_leaves app s a.0
