-- The numbers of values that a state at a point can have.
use Rattle.std.specs.Prelude.{List}
use Rattle.osek_standard.specs.{declared.{app.App.{App}, point.Point.{Point}}, Points.{IsPoint}}
use Rattle.flow_model.specs.Effects.{AreAllAllowed}
use Rattle.numbered_sets.specs.{declared.numbered_entry.NumberedEntry.{NumberedEntry}, NumberedEntries.{AreFilled}, Pools.{Values}, Views.{plain_entry, AreNumbersOf}}

-- The numbers are those of values that are allowed at the point, and each component has one.
pub record AreNumbersAt (app : App) (p : Point) (pool : List Values) (entry : NumberedEntry) : Type 0 where
  pub point : IsPoint app p
  pub numbers : AreNumbersOf pool entry
  pub filled : AreFilled entry
  pub allowed : AreAllAllowed app p (plain_entry pool entry)
