-- The rows of a written table by number, and the exits of a row.
use Rattle.std.specs.Prelude.{ℕ, List}
use Rattle.osek_standard.specs.{declared.app.App.{App}, Points.{point_number}}
use Rattle.abstract_state.specs.{declared.table.TableRow.{TableRow}, Written.{IsWritten}}
use Rattle.flow_exits.specs.{declared.exit.Exit.{Exit}, Exits.{CoverSteps, CoverInstructions, AreExact}}
use Rattle.numbered_sets.specs.{declared.table.NumberedRow.{NumberedRow}, Pools.{Values}, PlainTables.{plain_table, AreRowsOf}}

-- a row's key is the number of its point
abbrev pub number_of : NumberedRow → ℕ
number_of row = point_number row.point

-- The rows are those of a written table, by their numbers in the pool.
pub record AreRowsFrom (app : App) (pool : List Values) (rows : List NumberedRow) : Type 0 where
  pub known : AreRowsOf pool rows
  pub written : IsWritten app (plain_table pool rows)

-- The exits of a row: each step from a state of the row that shows something is by one, each instruction is one's, and each
-- choice of an exit's values is that after some step by it.
pub record AreExitsOf (app : App) (row : TableRow) (exits : List Exit) : Type 0 where
  pub steps : CoverSteps app row.point row.entry exits
  pub instructions : CoverInstructions app row.point row.entry exits
  pub exact : AreExact app row.point row.entry exits
