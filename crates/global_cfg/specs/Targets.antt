-- The points to which edges lead from one point, by the states of its entry, and the edges of rows.
use Rattle.std.specs.{Prelude.{◌≡◌, ◌≢◌, ◌⊎◌, ◌||◌, ◌==◌, not, Bool, true, false, List, Some, None, Contains}, declared.option.Option.{Option}}
use Rattle.osek_values.specs.declared.event.Event.{Event}
use Rattle.osek_standard.specs.{declared.{app.App.{App}, state.State.{State}, point.Point.{Point}}, Points.{point_of, point_number}, Kernel.{step}}
use Rattle.abstract_state.specs.{declared.{table.{PlainEntry.{PlainEntry}, TableRow.{TableRow}}, edge.FlowEdge.{FlowEdge}}, Edges.{IsAnew, flow_edge}}
use Rattle.flow_model.specs.declared.case.Decision.{Decision}
use Rattle.flow_model.specs.declared.case.Decision.TheVariants as decision
use Rattle.flow_model.specs.Effects.{IsAt}
use Rattle.table_rows.specs.{declared.bare.BareExit.{BareExit}, Order.{AscendBy}}
use Rattle.global_cfg.specs.{Edges.{AreAscending}, PointOrder.{HasNumber}}

-- the scheduler gives the processor to a task
abbrev pub dispatches : Option Decision → Bool
dispatches None = false
dispatches (Some decision.Keep) = false
dispatches (Some (decision.To None)) = false
dispatches (Some (decision.To (Some t))) = true

-- a step to a target, after this decision, ends at another point than p, or dispatches a task
abbrev pub leads : Point → Option Decision → Point → Bool
leads target decision p = not (point_number target == point_number p) || dispatches decision

-- an exit of these by which control flow leads on from p to this point
pub record HasExitTo (p : Point) (exits : List BareExit) (q : Point) : Type 0 where
  pub exit : BareExit
  pub listed : Contains exits exit
  pub on : leads exit.target exit.decision p ≡ true
  pub ends : q ≡ exit.target

-- The points with a property are put in, or ones with their numbers: those after were there before or have it.
pub record AreAllPut (Has : Point → Type 0) (before after : List Point) : Type 0 where
  pub order : AscendBy point_number after
  pub kept : (q : Point) → Contains before q → Contains after q
  pub from : (q : Point) → Contains after q → Contains before q ⊎ Has q
  pub each : (q : Point) → Has q → HasNumber after (point_number q)

-- The targets are put in of the exits by which control flow leads on from p.
abbrev pub AreEndsPut : Point → List BareExit → List Point → List Point → Type 0
AreEndsPut p exits before after = AreAllPut (HasExitTo p exits) before after

-- some state of the entry at p steps to a state at q, and q is another point or the task of p is dispatched anew
pub record LeadsTo (app : App) (p : Point) (entry : PlainEntry) (q : Point) : Type 0 where
  pub from : State
  pub event : Event
  pub at : IsAt app p entry from
  pub ends : point_of (step app from event).state ≡ q
  pub moves : (p ≢ q) ⊎ IsAnew app from event

-- These are the points to which edges lead, in their order.
pub record AreTargets (app : App) (p : Point) (entry : PlainEntry) (targets : List Point) : Type 0 where
  pub order : AscendBy point_number targets
  pub each : (q : Point) → Contains targets q → LeadsTo app p entry q
  pub all : (q : Point) → LeadsTo app p entry q → Contains targets q

-- it begins at the point of a row, and leads to where a state of its entry steps
pub record IsOfRow (app : App) (rows : List TableRow) (x : FlowEdge) : Type 0 where
  pub row : TableRow
  pub listed : Contains rows row
  pub begins : x.from ≡ row.point
  pub leads : LeadsTo app row.point row.entry x.to

-- the edges of these rows, in their order
pub record AreOfRows (app : App) (rows : List TableRow) (edges : List FlowEdge) : Type 0 where
  pub ascending : AreAscending edges
  pub each : (x : FlowEdge) → Contains edges x → IsOfRow app rows x
  pub all : (row : TableRow) (q : Point) → Contains rows row → LeadsTo app row.point row.entry q → Contains edges (flow_edge row.point q)
