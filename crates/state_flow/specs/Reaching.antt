-- What the evaluation of a point gives.
use Rattle.std.specs.Prelude.{◌≡◌, List, Contains}
use Rattle.osek_values.specs.declared.event.Event.{Event}
use Rattle.osek_standard.specs.{declared.{app.App.{App}, state.State.{State}, point.Point.{Point}}, Points.{point_of}, Kernel.{step}, Outcomes.{Silent, shows}}
use Rattle.abstract_state.specs.{declared.table.{PlainEntry.{PlainEntry}, TableRow.{TableRow}}, Components.{abstract_of}, Tables.{Sets, Inductive}}
use Rattle.flow_model.specs.Effects.{AreIn, IsAt}
use Rattle.numbered_sets.specs.PlainTables.{row_at}
use Rattle.point_exits.specs.Rows.{IsProperRow, IsRowIn}

-- the state is one of some row
pub record IsLed (app : App) (rows : List TableRow) (s : State) : Type 0 where
  pub row : TableRow
  pub listed : Contains rows row
  pub point : point_of s ≡ row.point
  pub within : AreIn app row.entry (abstract_of app s)

-- Each inductive table that has the entry at the point has the row.
pub record IsReached (app : App) (p : Point) (entry : PlainEntry) (row : TableRow) : Type 0 where
  pub proper : IsProperRow app row
  pub least : (other : Sets) → Inductive app other → IsRowIn other (row_at p entry) → IsRowIn other row

-- Each step of a state of a row that shows something leads to a state of some others.
abbrev pub StepsLeadTo : App → TableRow → List TableRow → Type 0
StepsLeadTo app row ends = (s : State) (e : Event) → IsAt app row.point row.entry s → (shows app s e ≡ Silent → ⊥) → IsLed app ends (step app s e).state

-- Each step of a state of the entry that shows something leads to a state of the rows, and the rows have no more than
-- that.
pub record Leads (app : App) (p : Point) (entry : PlainEntry) (rows : List TableRow) : Type 0 where
  pub covers : StepsLeadTo app (row_at p entry) rows
  pub each : (row : TableRow) → Contains rows row → IsReached app p entry row

-- one of the rows has all that it takes to reach the end
pub record IsReachedFrom (app : App) (rows : List TableRow) (end : TableRow) : Type 0 where
  pub from : TableRow
  pub among : Contains rows from
  pub reached : IsReached app from.point from.entry end
