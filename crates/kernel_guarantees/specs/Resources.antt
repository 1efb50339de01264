-- Who holds which resources (ISO 17356-3, resource management).
use Rattle.std.specs.{Prelude.{◌≡◌, ℕ, ◌≤◌, true, false, List}, declared.option.Option.{Option}}
use Rattle.osek_values.specs.declared.numbers.{ResNo.{ResNo}, SourceNo.{SourceNo}, TaskNo.{TaskNo}}
use Rattle.osek_standard.specs.declared.{app.App.{App}, state.State.{State}}
use Rattle.osek_standard.specs.{TaskStates.{held, holds}, States.{held_by_source, here, source_state, task_state}}
use Rattle.osek_standard.specs.{Apps.{the_block}, Internal.{occupied}, Priority.{base_priority, ceiling}, Levels.{interrupt_ceiling, own_level}}
use Rattle.osek_standard.specs.declared.call.{Call.TheVariants.{Resource}, ResourceService.TheVariants.{GetResource}}
use Rattle.osek_standard.specs.declared.block.Kind.TheVariants as kind
use Rattle.osek_standard.specs.declared.state.Processor.TheVariants as processor

-- a task or a routine, by its number
pub data Holder : Type 0 where
  OfTask : (task : ℕ) → Holder
  OfRoutine : (source : ℕ) → Holder

-- what it took by GetResource and hasn't released
abbrev pub stack_of : State → Holder → List ResNo
stack_of s (OfTask t) = held (task_state s t)
stack_of s (OfRoutine k) = held_by_source (source_state s k)

abbrev pub Holds : State → Holder → ℕ → Type 0
Holds s x r = holds (stack_of s x) r ≡ true

-- no resource is held by two
abbrev pub IsHeldOnce : State → Type 0
IsHeldOnce s = (x y : Holder) (r : ℕ) → Holds s x r → Holds s y r → x ≡ y

-- a task's base priority, a routine's own level
abbrev pub own_rank : App → Holder → ℕ
own_rank app (OfTask t) = base_priority app t
own_rank app (OfRoutine k) = own_level app k

-- a resource's ceiling for tasks, and for routines
abbrev pub ceiling_for : App → Holder → ℕ → ℕ
ceiling_for app (OfTask t) r = ceiling app r
ceiling_for app (OfRoutine k) r = interrupt_ceiling app r

-- each holder is at or under the ceilings of what it holds
abbrev pub IsCeiled : App → State → Type 0
IsCeiled app s = (x : Holder) (r : ℕ) → Holds s x r → own_rank app x ≤ ceiling_for app x r

-- a task has the resource: on its stack, or as the INTERNAL one where it is inside
abbrev pub Occupies : App → State → ℕ → ℕ → Type 0
Occupies app s t r = holds (occupied app t (task_state s t)) r ≡ true

-- GetResource(r) is what the processor does next
abbrev pub IsAtGetResource : App → State → ResNo → Type 0
IsAtGetResource app s r = (the_block app (here s).block.0).kind ≡ kind.Call (Resource GetResource r)

-- a task that runs calls GetResource(r): it is at or under the ceiling, and doesn't hold r
pub record IsTaking (app : App) (s : State) (c : TaskNo) (r : ResNo) : Type 0 where
  pub runs : s.processor ≡ processor.Running c
  pub calls : IsAtGetResource app s r
  pub under : base_priority app c.0 ≤ ceiling app r.0
  pub free : holds (held (task_state s c.0)) r.0 ≡ false

-- and so does a routine, by its level and the interrupt ceiling
pub record IsRoutineTaking (app : App) (s : State) (k : SourceNo) (over : Option TaskNo) (r : ResNo) : Type 0 where
  pub runs : s.processor ≡ processor.Interrupted k over
  pub calls : IsAtGetResource app s r
  pub under : own_level app k.0 ≤ interrupt_ceiling app r.0
  pub free : Holds s (OfRoutine k.0) r.0 → ⊥
