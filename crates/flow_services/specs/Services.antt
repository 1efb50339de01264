-- The cases of each service, in the order of ISO 17356-3.
use Rattle.std.specs.{Prelude.{ℕ, ◌+◌, Bool, true, false, not, ◌==◌, ◌||◌, nat_lt, bit_and, List, [], ◌∷◌, ◌++◌, map, Some, None, if◌then◌else◌}, List.{range_with_len}, declared.option.Option.{Option}}
use Rattle.osek_values.specs.{declared.numbers.BlockNo.{BlockNo}, Numbers.{task_no, block_no, alarm_no}}
use Rattle.osek_values.specs.declared.status.Status.TheVariants as status
use Rattle.oil_system.specs.declared.objects.Action.{Action}
use Rattle.oil_system.specs.declared.objects.Action.TheVariants as action
use Rattle.osek_standard.specs.declared.{app.App.{App}, block.Kind.{Kind}}
use Rattle.osek_standard.specs.declared.block.Kind.TheVariants as kind
use Rattle.osek_standard.specs.declared.call.Call.{Call}
use Rattle.flow_services.specs.CallNames as call
use Rattle.osek_standard.specs.{Apps.{the_task, the_alarm, the_block, is_extended, max_of, is_cycle, awaited}, Services.{share}}
use Rattle.abstract_state.specs.declared.value.PartValue.TheVariants.{OfAlarm}
use Rattle.abstract_state.specs.declared.value.Component.TheVariants as component
use Rattle.abstract_state.specs.Components.{component_no, component_number}
use Rattle.flow_model.specs.declared.test.Condition.{Condition}
use Rattle.flow_model.specs.declared.test.Test.TheVariants as test
use Rattle.flow_model.specs.declared.change.Update.TheVariants as update
use Rattle.flow_model.specs.declared.release.Releases.{Releases}
use Rattle.flow_model.specs.declared.case.Asked.TheVariants as asked
use Rattle.flow_model.specs.declared.{case.EffectCase.{EffectCase}, runner.Runner.{Runner}}
use Rattle.flow_model.specs.declared.runner.Runner.TheVariants as runner
use Rattle.flow_model.specs.{Runners.{change}, Cases.{condition, asked_after}, Changes.{alarm_change, event_changes, activating, activating_more}}
use Rattle.flow_services.specs.{Occasions.{ServiceCase, refused_case, accepted_case, unnoted_case, case_at}, declared.occasion.{Expired.{Expired}, Occasion.{Occasion}}}
use Rattle.flow_services.specs.declared.occasion.Queued.TheVariants as queued

-- all but the calls by which a caller ends, waits, asks for a dispatch alone, or takes and gives back a resource
abbrev pub is_service_call : Call → Bool
is_service_call (call.Task call.ActivateTask t) = true
is_service_call (call.Task call.ChainTask t) = false
is_service_call (call.Task call.GetEvent t) = true
is_service_call (call.Task call.GetTaskState t) = true
is_service_call (call.Plain call.TerminateTask) = false
is_service_call (call.Plain call.Schedule) = false
is_service_call (call.Plain call.GetTaskId) = true
is_service_call (call.Plain call.GetActiveApplicationMode) = true
is_service_call (call.Resource k r) = false
is_service_call (call.SetEvent t m) = true
is_service_call (call.Mask call.ClearEvent m) = true
is_service_call (call.Mask call.WaitEvent m) = false
is_service_call (call.Arm k a x cycle) = true
is_service_call (call.Alarm k a) = true
is_service_call (call.Lock l) = true
is_service_call call.ShutdownOs = false

-- The kinds whose cases stand here.
abbrev pub is_service : Kind → Bool
is_service (kind.Work n) = false
is_service (kind.Choice o) = false
is_service kind.Loop = false
is_service (kind.Call c) = is_service_call c
is_service kind.TaskEnd = false
is_service kind.IsrEnd = false
is_service kind.CountUp = false
is_service (kind.Expire a) = true

-- without a condition
abbrev pub always : ServiceCase → List ServiceCase
always x = x ∷ []

module _ (app : App) where
  -- how many activations a task takes at a time
  abbrev pub most_activations : ℕ → ℕ
  most_activations x = (the_task app x).activation

  -- a Live task that has room keeps an activation for later, and has a place more: one that takes a single activation never has
  abbrev pub further_activations : ℕ → List ServiceCase
  further_activations x =
      if nat_lt 1 (most_activations x) then accepted_case (condition x (test.Room (most_activations x)) ∷ []) (activating_more x) queued.Further ∷ []
      else []

  -- ActivateTask: LIMIT where the task takes no further activation. A suspended task begins, and goes last in the line.
  abbrev pub activations : ℕ → List ServiceCase
  activations x =
      refused_case (condition x (test.Full (most_activations x)) ∷ []) status.Limit
      ∷ accepted_case (condition x test.Suspended ∷ []) (activating app x) (queued.Last (task_no x))
      ∷ further_activations x

  -- at the block a task waits for one of these events
  abbrev pub awaits : ℕ → BlockNo → Bool
  awaits events b = share (awaited (the_block app b.0).kind) events

  -- the k-th block of a task
  abbrev pub own_block : ℕ → ℕ → BlockNo
  own_block x k = block_no ((the_task app x).first.0 + k)

  -- where a task goes on that waits at a block, if one of these events releases it
  abbrev pub release_at : ℕ → BlockNo → Option BlockNo
  release_at events b = if awaits events b then Some (the_block app b.0).next else None

  -- and so at each block of a task
  abbrev pub releases : ℕ → ℕ → Releases
  releases events x = record { first = (the_task app x).first; next = map (λ k. release_at events (own_block x k)) (range_with_len 0 (the_task app x).count) }

  abbrev pub own_among : ℕ → ℕ → ℕ
  own_among x m = bit_and m (the_task app x).own.0

  -- a task that none of the events releases: they are set
  abbrev pub not_awaiting : ℕ → ℕ → Releases → ServiceCase
  not_awaiting x events r = accepted_case (condition x test.NotSuspended ∷ condition x (test.WaitsNotAt r) ∷ []) (event_changes app x events true) queued.Nothing

  -- a task that waits for one is released too, to the block after
  abbrev pub waking : ℕ → ℕ → Releases → ServiceCase
  waking x events r = accepted_case (condition x (test.WaitsAt r) ∷ []) (change x (update.Release r) ∷ event_changes app x events true) (queued.Last (task_no x))

  abbrev pub settings : ℕ → ℕ → Releases → List ServiceCase
  settings x events r = refused_case (condition x test.Suspended ∷ []) status.State ∷ not_awaiting x events r ∷ waking x events r ∷ []

  -- SetEvent: ACCESS of a basic task, STATE of a suspended one
  abbrev pub event_settings : ℕ → ℕ → List ServiceCase
  event_settings x m =
      if is_extended app x then settings x (own_among x m) (releases (own_among x m) x)
      else always (refused_case [] status.Access)

  -- ClearEvent: CALLEVEL in a routine, ACCESS of a basic task
  abbrev pub event_clearings : Runner → ℕ → List ServiceCase
  event_clearings (runner.Task t) m =
      if is_extended app t.0 then always (accepted_case [] (event_changes app t.0 (own_among t.0 m) false) queued.Nothing)
      else always (refused_case [] status.Access)
  event_clearings (runner.Routine k z over) m = always (refused_case [] status.CallLevel)

  -- GetEvent: ACCESS of a basic task, STATE of a suspended one
  abbrev pub event_readings : ℕ → List ServiceCase
  event_readings x =
      if is_extended app x then
      refused_case (condition x test.Suspended ∷ []) status.State
      ∷ accepted_case (condition x test.NotSuspended ∷ []) [] queued.Nothing ∷ []
      else always (refused_case [] status.Access)

  -- an alarm is armed, or idle
  abbrev pub alarm_is : ℕ → Bool → Condition
  alarm_is a armed = condition (component_number app (component.Alarm (alarm_no a))) (test.Is (OfAlarm armed))

  -- SetRelAlarm, SetAbsAlarm: STATE of an armed alarm, VALUE where the numbers are refused
  abbrev pub armings : ℕ → Bool → List ServiceCase
  armings a refused =
      refused_case (alarm_is a true ∷ []) status.State
      ∷ (if refused then refused_case (alarm_is a false ∷ []) status.Value
      else accepted_case (alarm_is a false ∷ []) (alarm_change app a true ∷ []) queued.Nothing) ∷ []

  abbrev pub is_rel_refused : ℕ → ℕ → ℕ → Bool
  is_rel_refused a increment cycle = (increment == 0) || nat_lt (max_of app a) increment || not (is_cycle app a cycle)

  abbrev pub is_abs_refused : ℕ → ℕ → ℕ → Bool
  is_abs_refused a start cycle = nat_lt (max_of app a) start || not (is_cycle app a cycle)

  -- CancelAlarm: NOFUNC of an idle alarm
  abbrev pub cancellings : ℕ → List ServiceCase
  cancellings a =
      refused_case (alarm_is a false ∷ []) status.NoFunc
      ∷ accepted_case (alarm_is a true ∷ []) (alarm_change app a false ∷ []) queued.Nothing ∷ []

  -- GetAlarm: NOFUNC of an idle alarm
  abbrev pub alarm_readings : ℕ → List ServiceCase
  alarm_readings a =
      refused_case (alarm_is a false ∷ []) status.NoFunc
      ∷ accepted_case (alarm_is a true ∷ []) [] queued.Nothing ∷ []

  -- what an alarm does when it expires
  abbrev pub actions : Action → List ServiceCase
  actions (action.ActivateTask x) = activations x.0
  actions (action.SetEvent x m) = event_settings x.0 m.0

  -- The cases of a call.
  abbrev pub call_cases : Runner → Call → List ServiceCase
  call_cases r (call.Task call.ActivateTask x) = activations x.0
  call_cases r (call.Task call.GetEvent x) = event_readings x.0
  call_cases r (call.Task call.GetTaskState x) = always (accepted_case [] [] queued.Nothing)
  call_cases r (call.SetEvent x m) = event_settings x.0 m.0
  call_cases r (call.Mask call.ClearEvent m) = event_clearings r m.0
  call_cases r (call.Arm call.SetRelAlarm a increment cycle) = armings a.0 (is_rel_refused a.0 increment cycle)
  call_cases r (call.Arm call.SetAbsAlarm a start cycle) = armings a.0 (is_abs_refused a.0 start cycle)
  call_cases r (call.Alarm call.CancelAlarm a) = cancellings a.0
  call_cases r (call.Alarm call.GetAlarm a) = alarm_readings a.0
  call_cases r (call.Plain call.GetTaskId) = always (accepted_case [] [] queued.Nothing)
  call_cases r (call.Plain call.GetActiveApplicationMode) = always (unnoted_case [])
  call_cases r (call.Lock l) = always (unnoted_case [])
  call_cases r _ = []

  -- the call of a service
  abbrev pub calling : Runner → BlockNo → Occasion
  calling r next = record { runner = r; next = next; asked = asked_after app r; expired = None }

  -- an alarm's action: nothing is asked at interrupt level
  abbrev pub looking : Runner → BlockNo → Occasion
  looking r next = record { runner = r; next = next; asked = asked.No; expired = None }

  abbrev pub expired_alarm : ℕ → Bool → Expired
  expired_alarm a again = record { alarm = component_no (component_number app (component.Alarm (alarm_no a))); again = again }

  abbrev pub expiring : Runner → BlockNo → ℕ → Bool → Occasion
  expiring r next a again = record { runner = r; next = next; asked = asked.No; expired = Some (expired_alarm a again) }

  -- An alarm that a tick routine looks at: idle, or armed and not due; or due, and then idle or armed anew.
  abbrev pub expiries : Runner → BlockNo → ℕ → List EffectCase
  expiries r next a =
      case_at (looking r next) (unnoted_case (alarm_is a false ∷ []))
      ∷ case_at (looking r next) (unnoted_case (alarm_is a true ∷ []))
      ∷ map (case_at (expiring r next a false)) (actions (the_alarm app a).action)
      ++ map (case_at (expiring r next a true)) (actions (the_alarm app a).action)
