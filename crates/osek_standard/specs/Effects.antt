-- The effect of one instruction: what it does to the state, what it notes, and what it asks of the scheduler.
use Rattle.std.specs.{Prelude.{ℕ, ◌+◌, Bool, true, false, nat_lt, bit_and, if◌then◌else◌, Some, None}, declared.option.Option.{Option}}
use Rattle.osek_values.specs.declared.{hooks.HookSet.{HookSet}, status.{Status.{Status}, Ask.{Ask}}, notes.Notes.{Notes}}
use Rattle.osek_values.specs.declared.numbers.{TaskNo.{TaskNo}, BlockNo.{BlockNo}, SourceNo.{SourceNo}}
use Rattle.osek_values.specs.Hooks.{hook_set, shutdown, error, when}
use Rattle.osek_values.specs.declared.status.Status.TheVariants as status
use Rattle.osek_values.specs.declared.status.Ask.TheVariants as ask
use Rattle.osek_values.specs.declared.notes.Value.TheVariants as value
use Rattle.oil_system.specs.declared.objects.Schedule.{Schedule, TheVariants.{Non, Full}}
use Rattle.osek_standard.specs.declared.{app.App.{App}, block.{Block.{Block}, Kind.{Kind}}, call.Call.{Call}}
use Rattle.osek_standard.specs.declared.task_state.{Place.{Place}, TaskState.{TaskState}, Activity.{Activity, TheVariants.{Suspended, Live, Waiting}}}
use Rattle.osek_standard.specs.declared.state.{State.{State}, Source.{Source}, Processor.{Processor}, Caller.{Caller, TheVariants.{Nobody, Task, Routine}}}
use Rattle.osek_standard.specs.{Apps.{the_task, the_block}, States.{caller, task_state, with_task, source_state, with_source, with_processor, here, all_out}}
use Rattle.osek_standard.specs.Services.{Answer, unnoted, left, ended, activate_task, terminate_task, chain_task, schedule, get_task_id, get_task_state, get_resource_by}
use Rattle.osek_standard.specs.Services.{release_resource_by, set_event, clear_event, get_event, wait_event, set_rel_alarm, set_abs_alarm, cancel_alarm, get_alarm, counted_by}
use Rattle.osek_standard.specs.Services.{expire}
use Rattle.osek_standard.specs.{Line.{first_in_line}, Levels.{next_routine}}
use Rattle.osek_standard.specs.CallNames as call
use Rattle.osek_standard.specs.declared.block.Kind.TheVariants as kind
use Rattle.osek_standard.specs.declared.state.Source.TheVariants as source
use Rattle.osek_standard.specs.declared.state.Processor.TheVariants as processor

-- what an instruction leaves, notes and asks
pub record Effect : Type 0 where
  pub state : State
  pub notes : Notes
  pub ask : Ask

abbrev pub effected : State → Notes → Ask → Effect
effected s n a = record { state = s; notes = n; ask = a }

-- the hooks of these that the OS object sets TRUE
abbrev pub wanted : App → ℕ → HookSet
wanted app hooks = hook_set (bit_and app.hooks.0 hooks)

abbrev pub is_error : Option Status → Bool
is_error None = false
is_error (Some status.Ok) = false
is_error (Some status.Access) = true
is_error (Some status.CallLevel) = true
is_error (Some status.Id) = true
is_error (Some status.Limit) = true
is_error (Some status.NoFunc) = true
is_error (Some status.Resource) = true
is_error (Some status.State) = true
is_error (Some status.Value) = true

-- ErrorHook runs where a service or an alarm's action answers other than E_OK
abbrev pub noted : App → Answer → Effect
noted app a = effected a.state (record { status = a.status; value = a.value; hooks = wanted app (when (is_error a.status) error) }) a.ask

abbrev pub place_at : BlockNo → ℕ → Place
place_at b o = record { block = b; offset = o }

abbrev pub standing_at : Activity → Place → Activity
standing_at Suspended p = Suspended
standing_at (Live x) p = Live (record x { at = p })
standing_at (Waiting b) p = Waiting b

abbrev pub task_at : TaskState → Place → TaskState
task_at x p = record x { activity = standing_at x.activity p }

abbrev pub source_at : Source → Place → Source
source_at source.Out p = source.Out
source_at (source.In x) p = source.In (record x { at = p })

-- who has the processor stands at this place, and keeps all else
abbrev pub moved_by : State → Processor → Place → State
moved_by s processor.Halted p = s
moved_by s processor.Idle p = s
moved_by s (processor.Running t) p = with_task s t.0 (task_at (task_state s t.0) p)
moved_by s (processor.Interrupted k over) p = with_source s k.0 (source_at (source_state s k.0) p)

abbrev pub moved : State → Place → State
moved s p = moved_by s s.processor p

-- at the first instruction of a block
abbrev pub moved_to : State → BlockNo → State
moved_to s b = moved s (place_at b 0)

abbrev pub is_schedule : Kind → Bool
is_schedule (kind.Call (call.Plain call.Schedule)) = true
is_schedule _ = false

-- a non-preemptive caller reschedules at Schedule alone (ISO 17356-3, non-preemptive scheduling)
abbrev pub asked_under : Schedule → Kind → Ask
asked_under Full k = ask.Maybe
asked_under Non k = if is_schedule k then ask.Maybe else ask.No

-- a call at interrupt level never reschedules
abbrev pub asked_by : App → Caller → Kind → Ask → Ask
asked_by app Nobody k a = ask.No
asked_by app (Routine r) k a = ask.No
asked_by app (Task t) k ask.No = ask.No
asked_by app (Task t) k ask.Maybe = asked_under (the_task app t.0).schedule k
asked_by app (Task t) k ask.Left = ask.Left
asked_by app (Task t) k ask.Free = ask.Free

abbrev pub asks_as : App → Caller → Kind → Answer → Answer
asks_as app c k a = record a { ask = asked_by app c k a.ask }

-- the row of a service, and of the two kinds of a tick routine; the other kinds are no calls
abbrev pub row : App → State → Caller → Call → Answer
row app s c (call.Task call.ActivateTask t) = activate_task app s t.0
row app s c (call.Plain call.TerminateTask) = terminate_task app s c
row app s c (call.Task call.ChainTask t) = chain_task app s c t.0
row app s c (call.Plain call.Schedule) = schedule s c
row app s c (call.Resource call.GetResource r) = get_resource_by app s c r
row app s c (call.Resource call.ReleaseResource r) = release_resource_by app s c r
row app s c (call.SetEvent t m) = set_event app s t.0 m.0
row app s c (call.Mask call.ClearEvent m) = clear_event app s c m.0
row app s c (call.Task call.GetEvent t) = get_event app s t.0
row app s c (call.Mask call.WaitEvent m) = wait_event app s c m.0
row app s c (call.Arm call.SetRelAlarm a i y) = set_rel_alarm app s a.0 i y
row app s c (call.Arm call.SetAbsAlarm a i y) = set_abs_alarm app s a.0 i y
row app s c (call.Alarm call.CancelAlarm a) = cancel_alarm app s a.0
row app s c (call.Alarm call.GetAlarm a) = get_alarm app s a.0
row app s c (call.Plain call.GetTaskId) = get_task_id s
row app s c (call.Task call.GetTaskState t) = get_task_state s t.0
row app s c (call.Plain call.GetActiveApplicationMode) = record (unnoted s ask.No) { value = Some (value.Mode s.mode) }
row app s c call.ShutdownOs = unnoted s ask.No
row app s c (call.Lock l) = unnoted s ask.No

abbrev pub called : App → State → Caller → Kind → Answer
called app s c (kind.Work n) = unnoted s ask.No
called app s c (kind.Choice o) = unnoted s ask.No
called app s c kind.Loop = unnoted s ask.No
called app s c (kind.Call k) = row app s c k
called app s c kind.TaskEnd = unnoted s ask.No
called app s c kind.IsrEnd = unnoted s ask.No
called app s c kind.CountUp = unnoted (counted_by app s c) ask.No
called app s c (kind.Expire a) = expire app s a.0

-- a caller goes on to its next block, unless it left
abbrev pub goes_on_by : Ask → BlockNo → Answer → Answer
goes_on_by ask.No next a = record a { state = moved_to a.state next }
goes_on_by ask.Maybe next a = record a { state = moved_to a.state next }
goes_on_by ask.Left next a = a
goes_on_by ask.Free next a = record a { state = moved_to a.state next }

abbrev pub goes_on_unless_left : BlockNo → Answer → Answer
goes_on_unless_left next a = goes_on_by a.ask next a

-- falling off the closing brace ends the task and gives back what is held (the profile)
abbrev pub end_task : App → State → Caller → Answer
end_task app s Nobody = unnoted s ask.No
end_task app s (Routine k) = unnoted s ask.No
end_task app s (Task c) = unnoted (left (ended app s c.0)) ask.Left

-- Rescheduling after a routine takes place over a preemptive task, and where no task was interrupted
-- (ISO 17356-3, interrupt processing).
abbrev pub asked_over : Schedule → Ask
asked_over Full = ask.Maybe
asked_over Non = ask.No

-- the processor goes back to what was interrupted
abbrev pub given_back : App → State → Option TaskNo → Answer
given_back app s None = unnoted (with_processor s processor.Idle) ask.Free
given_back app s (Some t) = unnoted (with_processor s (processor.Running t)) (asked_over (the_task app t.0).schedule)

-- to the routine that goes on, or else to what the routines interrupted
abbrev pub returned_to : App → State → Option TaskNo → Option SourceNo → Answer
returned_to app s over None = given_back app s over
returned_to app s over (Some k) = unnoted (with_processor s (processor.Interrupted k over)) ask.No

-- the end of a routine gives back what it holds
abbrev pub returned_by : App → State → Processor → Answer
returned_by app s processor.Halted = unnoted s ask.No
returned_by app s processor.Idle = unnoted s ask.No
returned_by app s (processor.Running t) = unnoted s ask.No
returned_by app s (processor.Interrupted k over) = returned_to app (with_source s k.0 source.Out) over (next_routine app (with_source s k.0 source.Out))

abbrev pub returned : App → State → Answer
returned app s = returned_by app s s.processor

-- all routines are over, and the task that runs or is interrupted is ready
abbrev pub halted_by : State → Processor → State
halted_by s processor.Halted = s
halted_by s processor.Idle = with_processor s processor.Halted
halted_by s (processor.Running t) = with_processor (first_in_line s (Some t)) processor.Halted
halted_by s (processor.Interrupted k over) = with_processor (all_out (first_in_line s over)) processor.Halted

-- ShutdownOS: the kernel halts and ShutdownHook runs (the standard); the caller stands at its next block, and no
-- PostTaskHook runs (the profile)
abbrev pub shut_down : App → State → Effect
shut_down app s = effected (halted_by s s.processor) (record { status = None; value = None; hooks = wanted app shutdown }) ask.No

-- The effect of the instruction at a place, by the kind of its block.
abbrev pub effect_at : App → State → Bool → Place → Block → Kind → Effect
effect_at app s choice p b (kind.Work n) =
    noted app (if nat_lt (p.offset + 1) n then unnoted (moved s (place_at p.block (p.offset + 1))) ask.No else unnoted (moved_to s b.next) ask.No)
effect_at app s choice p b (kind.Choice other) = noted app (unnoted (moved_to s (if choice then b.next else other)) ask.No)
effect_at app s choice p b (kind.Call (call.Mask call.WaitEvent m)) = noted app (goes_on_unless_left b.next (wait_event app s (caller s.processor) m.0))
effect_at app s choice p b (kind.Call call.ShutdownOs) = shut_down app (moved_to s b.next)
effect_at app s choice p b kind.TaskEnd = noted app (end_task app s (caller s.processor))
effect_at app s choice p b kind.IsrEnd = noted app (returned app s)
-- any other call: the caller goes on to its next block, and then the row applies
effect_at app s choice p b k = noted app (asks_as app (caller s.processor) k (called app (moved_to s b.next) (caller s.processor) k))

-- nobody has the processor: nothing is done
abbrev pub no_effect : App → State → Effect
no_effect app s = noted app (unnoted s ask.No)

abbrev pub effect_by : App → State → Bool → Processor → Effect
effect_by app s choice processor.Halted = no_effect app s
effect_by app s choice processor.Idle = no_effect app s
effect_by app s choice (processor.Running t) = effect_at app s choice (here s) (the_block app (here s).block.0) (the_block app (here s).block.0).kind
effect_by app s choice (processor.Interrupted k over) = effect_at app s choice (here s) (the_block app (here s).block.0) (the_block app (here s).block.0).kind

-- The effect of the instruction at the processor.
unfoldable pub effect : App → State → Bool → Effect
effect app s choice = effect_by app s choice s.processor
