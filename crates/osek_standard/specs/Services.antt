-- The services of ISO 17356-3, each as one row: its refusals in the order in which they are tested, then what it does.
-- A refused call changes nothing. The caller's move to its next block stands in Effects, but for WaitEvent's caller,
-- which waits at its own block.
--
-- From the standard, where a row doesn't say otherwise: the refusals and their codes (extended status) and what an
-- accepted call does. This project's profile, in every row: the order of the tests, CALLEVEL, ACCESS, RESOURCE, STATE,
-- VALUE, LIMIT, NOFUNC; and that no status is noted where a call doesn't return one to its caller.
use Rattle.std.specs.Prelude.{ℕ, ◌+◌, ◌-◌, ◌%◌, Bool, true, false, ◌==◌, slice_get, nat_lt, ◌&&◌, ◌||◌, not, bit_and, bit_or, bit_xor, List, [], ◌∷◌, ◌++◌, length, slice_set, take}
use Rattle.std.specs.Prelude.{if◌then◌else◌, Some, None, nat_le}
use Rattle.std.specs.declared.option.Option.{Option}
use Rattle.osek_values.specs.{declared.{status.{Status.{Status}, Ask.{Ask}}, notes.Value.{Value}, numbers.{ResNo.{ResNo}, BlockNo.{BlockNo}}}, Numbers.{mask}}
use Rattle.osek_values.specs.declared.status.Status.TheVariants as status
use Rattle.osek_values.specs.declared.status.Ask.TheVariants as ask
use Rattle.osek_values.specs.declared.notes.Value.TheVariants as value
use Rattle.oil_system.specs.declared.objects.Action.{Action}
use Rattle.oil_system.specs.declared.objects.Action.TheVariants as action
use Rattle.osek_standard.specs.declared.{app.App.{App}, task_state.{TaskState.{TaskState}, Activity.{Activity, TheVariants.{Suspended, Live, Waiting}}}}
use Rattle.osek_standard.specs.declared.state.{State.{State}, AlarmState.{AlarmState, TheVariants.{Idle, Armed}}, Caller.{Caller, TheVariants.{Nobody, Task, Routine}}, Source.{Source}}
use Rattle.osek_standard.specs.{Apps.{the_task, the_counter, the_alarm, the_block, is_extended, is_counter, max_of, is_cycle, awaited}, TaskStates.{is_suspended, held}}
use Rattle.osek_standard.specs.States.{task_of, letter_of, is_taken, task_state, with_task, alarm_state, with_alarm, counter_value, with_processor, here, held_by_source}
use Rattle.osek_standard.specs.States.{source_state, with_source}
use Rattle.osek_standard.specs.{Priority.{base_priority, ceiling}, Line.{last_in_line}, Internal.{with_inside}, Levels.{own_level, interrupt_ceiling}}
use Rattle.osek_standard.specs.declared.state.Processor.TheVariants as processor
use Rattle.osek_standard.specs.declared.state.Source.TheVariants as source

-- what a service leaves, answers and asks
pub record Answer : Type 0 where
  pub state : State
  pub status : Option Status
  pub value : Option Value
  pub ask : Ask

abbrev pub answer : State → Option Status → Option Value → Ask → Answer
answer s e v a = record { state = s; status = e; value = v; ask = a }

abbrev pub refused : State → Status → Answer
refused s e = answer s (Some e) None ask.No

abbrev pub accepted : State → Ask → Answer
accepted s a = answer s (Some status.Ok) None a

abbrev pub accepted_with : State → Value → Answer
accepted_with s v = answer s (Some status.Ok) (Some v) ask.No

-- no status is noted
abbrev pub unnoted : State → Ask → Answer
unnoted s a = answer s None None a

-- a service that may ask for rescheduling asks where it is accepted
abbrev pub maybe_if : Status → Ask
maybe_if status.Ok = ask.Maybe
maybe_if status.Access = ask.No
maybe_if status.CallLevel = ask.No
maybe_if status.Id = ask.No
maybe_if status.Limit = ask.No
maybe_if status.NoFunc = ask.No
maybe_if status.Resource = ask.No
maybe_if status.State = ask.No
maybe_if status.Value = ask.No

-- both have an event
abbrev pub share : ℕ → ℕ → Bool
share m n = not (bit_and m n == 0)

abbrev pub is_top_resource : Option ResNo → ℕ → Bool
is_top_resource None r = false
is_top_resource (Some q) r = q.0 == r

abbrev pub is_on_top : ℕ → List ResNo → Bool
is_on_top r stack = is_top_resource (slice_get stack (length stack - 1)) r

abbrev pub with_stack : Activity → List ResNo → Activity
with_stack Suspended h = Suspended
with_stack (Live x) h = Live (record x { held = h })
with_stack (Waiting b) h = Waiting b

abbrev pub source_with_stack : Source → List ResNo → Source
source_with_stack source.Out h = source.Out
source_with_stack (source.In x) h = source.In (record x { held = h })

-- Live at a block, with these further activations: it holds nothing and isn't inside
abbrev pub live_at : BlockNo → ℕ → Activity
live_at b n = Live (record { at = record { block = b; offset = 0 }; held = []; further = n; inside = false })

-- an activated task is Live at its first block, and has no event (the standard: activation clears the events of an
-- extended task)
abbrev pub activated_state : App → ℕ → TaskState
activated_state app t = record { activity = live_at (the_task app t).first 0; events = mask 0 }

-- a Live one keeps the activation for later
abbrev pub activated_by : App → ℕ → TaskState → Activity → TaskState
activated_by app t x Suspended = activated_state app t
activated_by app t x (Live y) = record x { activity = Live (record y { further = y.further + 1 }) }
activated_by app t x (Waiting b) = x

-- a task that ends is suspended, or begins anew where a further activation is left
abbrev pub ended_by : App → ℕ → Activity → Activity
ended_by app t Suspended = Suspended
ended_by app t (Live x) = if x.further == 0 then Suspended else live_at (the_task app t).first (x.further - 1)
ended_by app t (Waiting b) = Suspended

-- a task that is released from waiting is Live at the block after
abbrev pub released_from : App → Activity → Activity
released_from app Suspended = Suspended
released_from app (Live x) = Live x
released_from app (Waiting b) = live_at (the_block app b.0).next 0

abbrev pub waits_in : App → Activity → ℕ → Bool
waits_in app Suspended m = false
waits_in app (Live x) m = false
waits_in app (Waiting b) m = share (awaited (the_block app b.0).kind) m

abbrev pub is_idle : AlarmState → Bool
is_idle Idle = true
is_idle (Armed at cycle) = false

-- the counter's value at which the alarm expires, if it is armed
abbrev pub due : AlarmState → Option ℕ
due Idle = None
due (Armed at cycle) = Some at

abbrev pub is_due_at : Option ℕ → ℕ → Bool
is_due_at None v = false
is_due_at (Some at) v = at == v

module _ (app : App) (s : State) where
  -- each activation has a place in the line
  abbrev pub activated : ℕ → State
  activated t = last_in_line (with_task s t (activated_by app t (task_state s t) (task_state s t).activity)) t

  abbrev pub ended : ℕ → State
  ended t = with_task s t (record (task_state s t) { activity = ended_by app t (task_state s t).activity })

-- a caller that ended or waits leaves the processor
abbrev pub left : State → State
left s = with_processor s processor.Idle

abbrev pub holds_some : State → ℕ → Bool
holds_some s t = not (length (held (task_state s t)) == 0)

abbrev pub with_held : State → ℕ → List ResNo → State
with_held s t h = with_task s t (record (task_state s t) { activity = with_stack (task_state s t).activity h })

abbrev pub with_events : State → ℕ → ℕ → State
with_events s t m = with_task s t (record (task_state s t) { events = mask m })

-- the task takes no further activation: it waits, or has as many as its ACTIVATION
abbrev pub is_full_by : ℕ → Activity → Bool
is_full_by activation Suspended = false
is_full_by activation (Live x) = nat_le activation (x.further + 1)
is_full_by activation (Waiting b) = true

abbrev pub is_full : App → State → ℕ → Bool
is_full app s t = is_full_by (the_task app t).activation (task_state s t).activity

-- ActivateTask(t)
unfoldable pub activate_task : App → State → ℕ → Answer
activate_task app s t =
    if is_full app s t then refused s status.Limit
    else accepted (activated app s t) ask.Maybe

-- TerminateTask. That the events of the ended task stay until its next activation is the profile's.
unfoldable pub terminate_task : App → State → Caller → Answer
terminate_task app s Nobody = unnoted s ask.No
terminate_task app s (Routine k) = refused s status.CallLevel
terminate_task app s (Task c) =
    if holds_some s c.0 then refused s status.Resource
    else unnoted (left (ended app s c.0)) ask.Left

-- ChainTask(t): the caller ends, and then t is activated; a chain to oneself is no second activation (the standard), and
-- clears the events as each activation (the profile)
unfoldable pub chain_task : App → State → Caller → ℕ → Answer
chain_task app s Nobody t = unnoted s ask.No
chain_task app s (Routine k) t = refused s status.CallLevel
chain_task app s (Task c) t =
    if holds_some s c.0 then refused s status.Resource
    else if not (t == c.0) && is_full app s t then refused s status.Limit
    else unnoted (activated app (left (ended app s c.0)) t) ask.Left

-- Schedule: the caller gives its INTERNAL resource back (the profile says how). A non-preemptive caller reschedules here
-- too (the standard).
unfoldable pub schedule : State → Caller → Answer
schedule s Nobody = unnoted s ask.No
schedule s (Routine k) = refused s status.CallLevel
schedule s (Task c) =
    if holds_some s c.0 then refused s status.Resource
    else accepted (with_inside s c.0 false) ask.Maybe

-- GetTaskID. At interrupt level it is the interrupted task (the profile).
abbrev pub get_task_id : State → Answer
get_task_id s = accepted_with s (value.Task (task_of s.processor))

-- GetTaskState(t). An interrupted task is running (the profile).
abbrev pub get_task_state : State → ℕ → Answer
get_task_state s t = accepted_with s (value.State (letter_of s.processor t (task_state s t)))

module _ (app : App) (s : State) where
  -- GetResource(r) of a task: ACCESS where r is taken or the caller's base priority is above its ceiling (the standard)
  unfoldable pub get_resource : ℕ → ResNo → Answer
  get_resource c r =
      if is_taken s r.0 || nat_lt (ceiling app r.0) (base_priority app c) then refused s status.Access
      else accepted (with_held s c (held (task_state s c) ++ r ∷ [])) ask.No

  -- ReleaseResource(r) of a task. ACCESS before NOFUNC is the profile's order; that r has to be the last taken, NOFUNC
  -- else, is the standard's.
  unfoldable pub release_resource : ℕ → ResNo → Answer
  release_resource c r =
      if nat_lt (ceiling app r.0) (base_priority app c) then refused s status.Access
      else if is_on_top r.0 (held (task_state s c))
      then accepted (with_held s c (take (length (held (task_state s c)) - 1) (held (task_state s c)))) ask.Maybe
      else refused s status.NoFunc

  abbrev pub stack_of_source : ℕ → List ResNo
  stack_of_source k = held_by_source (source_state s k)

  abbrev pub with_source_stack : ℕ → List ResNo → State
  with_source_stack k h = with_source s k (source_with_stack (source_state s k) h)

  -- GetResource(r) of a routine: ACCESS where r is taken, or the routine's level is above r's interrupt ceiling (the
  -- standard)
  unfoldable pub get_resource_isr : ℕ → ResNo → Answer
  get_resource_isr k r =
      if is_taken s r.0 || nat_lt (interrupt_ceiling app r.0) (own_level app k) then refused s status.Access
      else accepted (with_source_stack k (stack_of_source k ++ r ∷ [])) ask.No

  -- ReleaseResource(r) of a routine: refused as a task's is
  unfoldable pub release_resource_isr : ℕ → ResNo → Answer
  release_resource_isr k r =
      if nat_lt (interrupt_ceiling app r.0) (own_level app k) then refused s status.Access
      else if is_on_top r.0 (stack_of_source k)
      then accepted (with_source_stack k (take (length (stack_of_source k) - 1) (stack_of_source k))) ask.No
      else refused s status.NoFunc

  abbrev pub get_resource_by : Caller → ResNo → Answer
  get_resource_by Nobody r = unnoted s ask.No
  get_resource_by (Routine k) r = get_resource_isr k.0 r
  get_resource_by (Task c) r = get_resource c.0 r

  abbrev pub release_resource_by : Caller → ResNo → Answer
  release_resource_by Nobody r = unnoted s ask.No
  release_resource_by (Routine k) r = release_resource_isr k.0 r
  release_resource_by (Task c) r = release_resource c.0 r

  -- the events of t that m names: bits outside of its own are ignored (the profile)
  abbrev pub own_events : ℕ → ℕ → ℕ
  own_events t m = bit_and m (the_task app t).own.0

  abbrev pub events_set : ℕ → ℕ → ℕ
  events_set t m = bit_or (task_state s t).events.0 (own_events t m)

  abbrev pub waits_for : ℕ → ℕ → Bool
  waits_for t m = waits_in app (task_state s t).activity (own_events t m)

  abbrev pub woken : ℕ → ℕ → State
  woken t m = last_in_line (with_task s t (record { activity = released_from app (task_state s t).activity; events = mask (events_set t m) })) t

  -- SetEvent(t, m): the events are set, and t is released if it waits for one of these. ACCESS before STATE is the
  -- profile's order.
  unfoldable pub set_event : ℕ → ℕ → Answer
  set_event t m =
      if not (is_extended app t) then refused s status.Access
      else if is_suspended (task_state s t) then refused s status.State
      else if waits_for t m then accepted (woken t m) ask.Maybe
      else accepted (with_events s t (events_set t m)) ask.No

  -- ClearEvent(m). CALLEVEL before ACCESS is the profile's order.
  unfoldable pub clear_event : Caller → ℕ → Answer
  clear_event Nobody m = unnoted s ask.No
  clear_event (Routine k) m = refused s status.CallLevel
  clear_event (Task c) m =
      if not (is_extended app c.0) then refused s status.Access
      else accepted (with_events s c.0 (bit_xor (task_state s c.0).events.0 (bit_and (task_state s c.0).events.0 m))) ask.No

  -- GetEvent(t). ACCESS before STATE is the profile's order.
  unfoldable pub get_event : ℕ → Answer
  get_event t =
      if not (is_extended app t) then refused s status.Access
      else if is_suspended (task_state s t) then refused s status.State
      else accepted_with s (value.Mask (task_state s t).events)

  -- WaitEvent(m): without one of the events the caller waits at the block where it stands. CALLEVEL, ACCESS, RESOURCE is
  -- the profile's order, and so is that E_OK is noted at once, also where the caller waits.
  unfoldable pub wait_event : Caller → ℕ → Answer
  wait_event Nobody m = unnoted s ask.No
  wait_event (Routine k) m = refused s status.CallLevel
  wait_event (Task c) m =
      if not (is_extended app c.0) then refused s status.Access
      else if holds_some s c.0 then refused s status.Resource
      else if share (task_state s c.0).events.0 m then accepted s ask.No
      else accepted (left (with_task s c.0 (record (task_state s c.0) { activity = Waiting (here s).block }))) ask.Left

  -- the value of an alarm's counter
  abbrev pub value_of : ℕ → ℕ
  value_of a = counter_value s (the_alarm app a).counter.0

  -- SetRelAlarm(a, increment, cycle). An increment of 0 is VALUE (the profile; the standard leaves it to the
  -- implementation).
  unfoldable pub set_rel_alarm : ℕ → ℕ → ℕ → Answer
  set_rel_alarm a increment cycle =
      if not (is_idle (alarm_state s a)) then refused s status.State
      else if (increment == 0) || nat_lt (max_of app a) increment || not (is_cycle app a cycle) then refused s status.Value
      else accepted (with_alarm s a (Armed ((value_of a + increment) % (max_of app a + 1)) cycle)) ask.No

  -- SetAbsAlarm(a, start, cycle). A start that is already reached waits for the counter's next round (the standard).
  unfoldable pub set_abs_alarm : ℕ → ℕ → ℕ → Answer
  set_abs_alarm a start cycle =
      if not (is_idle (alarm_state s a)) then refused s status.State
      else if nat_lt (max_of app a) start || not (is_cycle app a cycle) then refused s status.Value
      else accepted (with_alarm s a (Armed start cycle)) ask.No

  -- CancelAlarm(a): NOFUNC where it isn't armed (the standard)
  unfoldable pub cancel_alarm : ℕ → Answer
  cancel_alarm a =
      if is_idle (alarm_state s a) then refused s status.NoFunc
      else accepted (with_alarm s a Idle) ask.No

  -- the ticks until an alarm expires: a whole round where its counter stands at the value (the profile)
  abbrev pub ticks_left : ℕ → ℕ → ℕ
  ticks_left a at =
      if at == value_of a then max_of app a + 1 else (at + (max_of app a + 1) - value_of a) % (max_of app a + 1)

  abbrev pub time_left : ℕ → Option ℕ → Answer
  time_left a None = refused s status.NoFunc
  time_left a (Some at) = accepted_with s (value.Number (ticks_left a at))

  -- GetAlarm(a): NOFUNC where it isn't armed (the standard)
  unfoldable pub get_alarm : ℕ → Answer
  get_alarm a = time_left a (due (alarm_state s a))

  -- a tick: the counter goes on by one, and from its greatest value to 0
  unfoldable pub count_up : ℕ → State
  count_up c = record s { counters = slice_set s.counters c (if counter_value s c == (the_counter app c).max then 0 else counter_value s c + 1) }

  -- by the routine of a counter
  abbrev pub counted_by : Caller → State
  counted_by Nobody = s
  counted_by (Task t) = s
  counted_by (Routine k) = if is_counter app k.0 then count_up k.0 else s

-- a single alarm is idle once it expired, and a cyclic one expires again a cycle later
abbrev pub rearmed : App → ℕ → AlarmState → AlarmState
rearmed app a Idle = Idle
rearmed app a (Armed at cycle) = if cycle == 0 then Idle else Armed ((at + cycle) % (max_of app a + 1)) cycle

-- nothing is asked at interrupt level
abbrev pub asks_no : Answer → Answer
asks_no a = record a { ask = ask.No }

abbrev pub acted : App → State → Action → Answer
acted app s (action.ActivateTask t) = activate_task app s t.0
acted app s (action.SetEvent t m) = set_event app s t.0 m.0

-- An alarm that is due at its counter's value is armed anew or idle, and then does its action; another does nothing.
unfoldable pub expire : App → State → ℕ → Answer
expire app s a =
    if is_due_at (due (alarm_state s a)) (value_of app s a)
    then asks_no (acted app (with_alarm s a (rearmed app a (alarm_state s a))) (the_alarm app a).action)
    else unnoted s ask.No
