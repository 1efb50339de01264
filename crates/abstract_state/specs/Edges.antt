-- Edges of the control-flow graph, and those that a table dictates.
use Rattle.std.specs.{Prelude.{◌≡◌, ◌≢◌, ◌⊎◌, Some}, declared.option.Option.{Option}}
use Rattle.osek_values.specs.declared.{event.Event.{Event}, numbers.TaskNo.{TaskNo}, status.Status.{Status}}
use Rattle.osek_standard.specs.declared.{app.App.{App}, state.State.{State}, point.Point.{Point}}
use Rattle.osek_standard.specs.declared.state.Processor.TheVariants as processor
use Rattle.osek_standard.specs.{Points.{point_of}, Dispatch.{To}, Outcomes.{Did, shows}, Kernel.{step}}
use Rattle.abstract_state.specs.{declared.edge.FlowEdge.{FlowEdge}, Tables.{Sets, In}}

abbrev pub flow_edge : Point → Point → FlowEdge
flow_edge p q = record { from = p; to = q }

-- the step dispatches the task that runs anew
pub record IsAnew (app : App) (s : State) (e : Event) : Type 0 where
  pub task : TaskNo
  pub status : Option Status
  pub runs : s.processor ≡ processor.Running task
  pub dispatched : shows app s e ≡ Did (To (Some task)) status

-- Some state in the table at p steps to a state at q, and q is another point or the task of p is dispatched anew.
pub record Edge (app : App) (table : Sets) (p q : Point) : Type 0 where
  pub from : State
  pub event : Event
  pub inside : In app table from
  pub begins : point_of from ≡ p
  pub ends : point_of (step app from event).state ≡ q
  pub moves : (p ≢ q) ⊎ IsAnew app from event
