-- What the scheduler decides, beside what the kernel does.
use Rattle.std.specs.{Prelude.{◌≡◌, ◌⊎◌, ⊤, ℕ, ◌<◌, true, Some, None}, declared.option.Option.{Option}}
use Rattle.osek_values.specs.{declared.numbers.TaskNo.{TaskNo}, Line.{place_in_line}}
use Rattle.osek_standard.specs.{declared.{app.App.{App}, state.State.{State}}, States.{is_that_task}, Effects.{Effect}, Dispatch.{outcome_of, settled}, Points.{point_of}}
use Rattle.abstract_state.specs.{declared.value.PartValue.{PartValue}, Components.{component_count, abstract_of}}
use Rattle.flow_model.specs.{declared.case.{Decision.{Decision}, Leaving.{Leaving}}, Scheduling.{outcome_of_decision, Decides, end_point}}
use Rattle.flow_model.specs.declared.case.Decision.TheVariants as decision

-- these are the values of the state's components
abbrev pub HasValues : App → State → (ℕ → PartValue) → Type 0
HasValues app s value = (c : ℕ) → c < component_count app → value c ≡ abstract_of app s c

-- The line goes with a decision: who gets the processor is put last, or comes first in the line.
abbrev pub GoesFirst : Option TaskNo → State → Decision → Type 0
GoesFirst last s decision.Keep = ⊤
GoesFirst last s (decision.To None) = ⊤
GoesFirst last s (decision.To (Some w)) = (is_that_task last w.0 ≡ true) ⊎ (place_in_line s.line w.0 ≡ 0)

-- The scheduler decides this by the values, the kernel does it, and then the processor stands where the decision says.
pub record IsKernelDecision (app : App) (leaving : Leaving) (e : Effect) (value : ℕ → PartValue) (d : Decision) : Type 0 where
  pub decides : Decides app value leaving d
  pub outcome : outcome_of app e ≡ outcome_of_decision d
  pub point : point_of (settled app e.state (outcome_of_decision d)) ≡ end_point app value (point_of e.state) d
