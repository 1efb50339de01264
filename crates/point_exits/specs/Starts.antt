-- The entry of one state, and the rows of the starts.
use Rattle.std.specs.Prelude.{◌≡◌, ◌<◌, [], ◌∷◌, length, map}
use Rattle.osek_values.specs.declared.numbers.ModeNo.{ModeNo}
use Rattle.osek_standard.specs.{declared.{app.App.{App}, state.State.{State}}, Kernel.{start}, Points.{point_of}}
use Rattle.abstract_state.specs.declared.value.{Component.{Component}, Domain.{Domain}, PartValue.{PartValue}}
use Rattle.abstract_state.specs.declared.value.Component.TheVariants as component
use Rattle.abstract_state.specs.{declared.table.{ValueSet.{ValueSet}, PlainEntry.{PlainEntry}, TableRow.{TableRow}}, Components.{components, part_of, abstract_of}}
use Rattle.abstract_state.specs.{Domains.{domain_of}, Tables.{Sets, Inductive}}
use Rattle.flow_model.specs.Effects.{AreIn}
use Rattle.point_exits.specs.Rows.{IsProperRow, IsRowIn}

-- the state's tables have the component
abbrev pub HasPart : State → Component → Type 0
HasPart s (component.Task t) = t.0 < length s.tasks
HasPart s (component.Event t k) = (t.0 < length s.tasks) × (k.0 < 64)
HasPart s (component.Alarm a) = a.0 < length s.alarms
HasPart s (component.Source k) = k.0 < length s.sources

abbrev pub single : Domain → PartValue → ValueSet
single d v = record { domain = d; members = v ∷ [] }

-- The entry that has a state alone.
abbrev pub entry_of : App → State → PlainEntry
entry_of app s = record { sets = map (λ k. single (domain_of app k) (part_of s k)) (components app) }

-- The row of the start in a mode: the start is in each table that has the row, and each inductive table has it.
pub record IsStartRow (app : App) (mode : ModeNo) (row : TableRow) : Type 0 where
  pub proper : IsProperRow app row
  pub point : point_of (start app mode).state ≡ row.point
  pub within : AreIn app row.entry (abstract_of app (start app mode).state)
  pub least : (other : Sets) → Inductive app other → IsRowIn other row
