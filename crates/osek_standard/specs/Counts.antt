-- How many points an application has, and how high its tables of possible states are (this project's profile).
use Rattle.std.specs.{Prelude.{ℕ, zero, suc, ◌+◌, ◌*◌, count_ones, length, not, is_some, if◌then◌else◌}, List.{sum_by, count_by}}
use Rattle.oil_system.specs.declared.objects.Resource.{Resource}
use Rattle.osek_standard.specs.declared.{app.App.{App}, objects.{Task.{Task}, Isr.{Isr}, Counter.{Counter}}}

-- the stacks of distinct resources out of n: the empty one, and each of the n above a stack of the others
abbrev pub stacks : ℕ → ℕ
stacks zero = 1
stacks (suc n) = 1 + suc n * stacks n

-- Live at a block, with one of so many stacks and with further activations
abbrev pub live_height : ℕ → Task → ℕ
live_height stack_count x = x.count * stack_count * x.activation

-- a task is suspended, waits at a block, or is Live, inside or not where it names an INTERNAL resource
abbrev pub task_height : ℕ → Task → ℕ
task_height stack_count x = 1 + x.count + (if is_some x.internal then 2 * live_height stack_count x else live_height stack_count x)

-- the routine of an ISR hasn't begun, or is at a block with one of so many stacks
abbrev pub isr_height : ℕ → Isr → ℕ
isr_height stack_count x = 1 + x.count * stack_count

-- a tick routine holds nothing
abbrev pub tick_height : Counter → ℕ
tick_height x = 1 + x.count

-- an event of an extended task is set or not
abbrev pub event_height : Task → ℕ
event_height x = 2 * count_ones x.own.0

module _ (app : App) where
  abbrev pub task_blocks : ℕ
  task_blocks = sum_by (λ (x : Task). x.count) app.tasks

  -- of ISRs and tick routines
  abbrev pub routine_blocks : ℕ
  routine_blocks = sum_by (λ (x : Isr). x.count) app.isrs + sum_by (λ (x : Counter). x.count) app.counters

  -- halted, idle, each block of a task, and each block of a routine over each task or over none
  abbrev pub points : ℕ
  points = 2 + task_blocks + routine_blocks * (length app.tasks + 1)

  -- the resources that may stand on a stack
  abbrev pub takable_count : ℕ
  takable_count = count_by (λ (r : Resource). not r.internal) app.resources

  -- where each routine can be
  abbrev pub source_height : ℕ
  source_height = sum_by tick_height app.counters + sum_by (isr_height (stacks takable_count)) app.isrs

  -- what each task can be in, whether each event is set, whether each alarm is armed, and where each routine is
  abbrev pub height : ℕ
  height = sum_by (task_height (stacks takable_count)) app.tasks + sum_by event_height app.tasks + 2 * length app.alarms + source_height
