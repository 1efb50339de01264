-- What an outcome makes of the values of the tasks: who gets the processor or keeps it is inside where it names an
-- INTERNAL resource.
use Rattle.std.specs.{Prelude.{ℕ, Bool, true, false, Some, None, is_some}, declared.option.Option.{Option}}
use Rattle.osek_values.specs.declared.numbers.TaskNo.{TaskNo}
use Rattle.osek_standard.specs.declared.{app.App.{App}, state.{State.{State}, Processor.{Processor}}}
use Rattle.osek_standard.specs.declared.state.Processor.TheVariants as processor
use Rattle.osek_standard.specs.{States.{is_that_task, task_state}, Internal.{internal_of}, Dispatch.{Outcome, Keep, To}}
use Rattle.abstract_state.specs.declared.value.{Val.{Val, TheVariants.{Suspended, Live, Waiting}}, Component.{Component}, PartValue.{PartValue, TheVariants.{OfTask}}}
use Rattle.abstract_state.specs.declared.value.Component.TheVariants as component
use Rattle.abstract_state.specs.Components.{part_of, value_in}

-- a Live task is inside, or not
abbrev pub inside_val : Bool → Val → Val
inside_val b Suspended = Suspended
inside_val b (Live x) = Live (record x { inside = b })
inside_val b (Waiting c) = Waiting c

abbrev pub inside_val_if : Bool → Bool → Val → Val
inside_val_if true b v = inside_val b v
inside_val_if false b v = v

abbrev pub running_task : Processor → Option TaskNo
running_task processor.Halted = None
running_task processor.Idle = None
running_task (processor.Running t) = Some t
running_task (processor.Interrupted k over) = None

-- the task that has the processor after an outcome
abbrev pub runner_after : State → Outcome → Option TaskNo
runner_after s Keep = running_task s.processor
runner_after s (To o) = o

-- the value of task u where this task has the processor
abbrev pub settled_val : App → Option TaskNo → ℕ → Val → Val
settled_val app o u v = inside_val_if (is_that_task o u) (is_some (internal_of app u)) v

-- What a part of a state is after an outcome.
abbrev pub settled_part_of : App → State → Outcome → Component → PartValue
settled_part_of app s o (component.Task t) = OfTask (settled_val app (runner_after s o) t.0 (value_in (task_state s t.0).activity))
settled_part_of app s o (component.Event t k) = part_of s (component.Event t k)
settled_part_of app s o (component.Alarm a) = part_of s (component.Alarm a)
settled_part_of app s o (component.Source k) = part_of s (component.Source k)
