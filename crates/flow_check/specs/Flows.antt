-- Where the steps from the states of a table lead.
use Rattle.std.specs.Prelude.{◌≡◌}
use Rattle.osek_values.specs.declared.event.Event.{Event}
use Rattle.osek_standard.specs.{declared.{app.App.{App}, state.State.{State}, point.Point.{Point}}, Kernel.{step}, Points.{point_of, point_number}}
use Rattle.abstract_state.specs.{declared.table.PlainTable.{PlainTable}, Tables.{Sets, In, sets_of}}
use Rattle.flow_check.specs.{declared.flow.Flow.{Flow}, Outcomes.{AreFound}, Verdicts.{Leaves, StaysIn}}
use Rattle.flow_check.specs.declared.flow.Flow.TheVariants as flow

-- each step from a state in the table at the point leads to one in it
abbrev pub StaysFrom : App → Sets → Point → Type 0
StaysFrom app table p = (s : State) (e : Event) → In app table s → point_of s ≡ p → In app table (step app s e).state

-- One from the point leaves the table, and none from a point before; or each stays in it, and this is found at each block.
abbrev pub IsFlow : App → PlainTable → Flow → Type 0
IsFlow app table (flow.Leaves p) = StaysIn app (sets_of table) (point_number p) × Leaves app (sets_of table) p
IsFlow app table (flow.Stays sites) = ((p : Point) → StaysFrom app (sets_of table) p) × AreFound app table.rows sites
