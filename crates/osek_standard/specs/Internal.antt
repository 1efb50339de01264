-- INTERNAL resources (ISO 17356-3, internal resources): a task that names one takes it at its dispatch, and gives it
-- back when it ends, waits or calls Schedule. A Live task that has it is inside.
use Rattle.std.specs.{Prelude.{◌≡◌, ℕ, Bool, true, List, if◌then◌else◌, Some, None, is_some}, List.{cons_option}, declared.option.Option.{Option}}
use Rattle.osek_values.specs.declared.numbers.{ResNo.{ResNo}, TaskNo.{TaskNo}}
use Rattle.osek_standard.specs.declared.{app.App.{App}, task_state.{TaskState.{TaskState}, Activity.{Activity, TheVariants.{Suspended, Live, Waiting}}}}
use Rattle.osek_standard.specs.declared.state.{State.{State}, Processor.{Processor}}
use Rattle.osek_standard.specs.{Apps.{the_task}, TaskStates.{is_inside, held}, States.{task_of, is_that_task, task_state, with_task}}
use Rattle.osek_standard.specs.declared.state.Processor.TheVariants as processor

-- the INTERNAL resource that a task names
abbrev pub internal_of : App → ℕ → Option ResNo
internal_of app t = (the_task app t).internal

-- all resources that a task has: its INTERNAL one where it is inside, and then its stack
abbrev pub occupied : App → ℕ → TaskState → List ResNo
occupied app t x = cons_option (if is_inside x then internal_of app t else None) (held x)

-- a Live task is inside, or not
abbrev pub inside_as : Bool → Activity → Activity
inside_as b Suspended = Suspended
inside_as b (Live x) = Live (record x { inside = b })
inside_as b (Waiting c) = Waiting c

abbrev pub with_inside : State → ℕ → Bool → State
with_inside s t b = with_task s t (record (task_state s t) { activity = inside_as b (task_state s t).activity })

-- a task that gets the processor is inside where it names an INTERNAL resource
abbrev pub put_inside : App → State → Option TaskNo → State
put_inside app s None = s
put_inside app s (Some t) = with_inside s t.0 (is_some (internal_of app t.0))

-- a task that keeps the processor is so too: Schedule alone let it out
abbrev pub kept_by : App → State → Processor → State
kept_by app s processor.Halted = s
kept_by app s processor.Idle = s
kept_by app s (processor.Running t) = put_inside app s (Some t)
kept_by app s (processor.Interrupted k over) = s

abbrev pub kept : App → State → State
kept app s = kept_by app s s.processor

-- Who may be inside, and who has to be. Each state of the kernel has it, but for the caller of an accepted Schedule
-- until its outcome.
pub record IsInside (app : App) (s : State) : Type 0 where
  pub named : (t : ℕ) → is_inside (task_state s t) ≡ true → is_some (internal_of app t) ≡ true
  pub current : (t : ℕ) → is_that_task (task_of s.processor) t ≡ true → is_inside (task_state s t) ≡ is_some (internal_of app t)
