-- The rows of exits, by number, and their joins to cells.
use Rattle.std.specs.{Prelude.{◌≡◌, ◌≢◌, ℕ, List, map, IsTrue, Contains}, List.{flat_map}}
use Rattle.osek_standard.specs.declared.{app.App.{App}, point.Point.{Point}}
use Rattle.abstract_state.specs.declared.table.TableRow.{TableRow}
use Rattle.numbered_sets.specs.{declared.numbered_entry.NumberedEntry.{NumberedEntry}, Numbers.{has_number}, NumberedEntries.{numbers_at}, Pools.{Values}, Views.{plain_entry}, PlainTables.{row_at}}
use Rattle.point_exits.specs.declared.group.{NumberEnd.{NumberEnd}, Ends.{Ends}, ExitGroup.{ExitGroup}}
use Rattle.point_exits.specs.declared.group.Ends.TheVariants as ends
use Rattle.point_exits.specs.Groups.{with_end}
use Rattle.state_flow.specs.declared.cells.Cell.{Cell}
use Rattle.point_exits.specs.Rows.{IsProperRow}
use Rattle.state_flow.specs.{Progress.{AreJoined}, PlainCells.{plain_cells, AreCellsOf}}

-- the rows of an entry at points
abbrev pub rows_at : List Values → NumberedEntry → List Point → List TableRow
rows_at pool entry points = map (λ (p : Point). row_at p (plain_entry pool entry)) points

-- the row of an end: with its numbers, at its point
abbrev pub end_row : List Values → NumberedEntry → NumberEnd → TableRow
end_row pool entry x = row_at x.target (plain_entry pool (with_end entry x))

abbrev pub rows_with : List Values → NumberedEntry → List NumberEnd → List TableRow
rows_with pool entry xs = map (end_row pool entry) xs

abbrev pub rows_by : List Values → NumberedEntry → Ends → List TableRow
rows_by pool entry (ends.At points) = rows_at pool entry points
rows_by pool entry (ends.With xs) = rows_with pool entry xs

-- the rows of all exits of groups
abbrev pub all_rows : List Values → List ExitGroup → List TableRow
all_rows pool groups = flat_map (λ (g : ExitGroup). rows_by pool g.entry g.ends) groups

abbrev pub AreProperRows : App → List TableRow → Type 0
AreProperRows app rows = (row : TableRow) → Contains rows row → IsProperRow app row

-- The rows were joined to the cells.
pub record AreRowsJoined (app : App) (pool : List Values) (cells : List (Cell NumberedEntry)) (rows : List TableRow) (now : List (Cell NumberedEntry)) : Type 0 where
  pub known : AreCellsOf pool now
  pub joined : AreJoined app (plain_cells pool cells) rows (plain_cells pool now)

-- all ends have numbers of one component
abbrev pub AreOfOne : List NumberEnd → Type 0
AreOfOne xs = (x y : NumberEnd) → Contains xs x → Contains xs y → x.component ≡ y.component

-- ---- ends that together have what the entry has

-- each number of the end is one of the entry's
abbrev pub IsPart : NumberedEntry → NumberEnd → Type 0
IsPart entry x = (n : ℕ) → IsTrue (has_number x.numbers n) → IsTrue (has_number (numbers_at entry x.component) n)

-- all are at one point, and two have numbers of different components
pub record AreTogether (entry : NumberedEntry) (xs : List NumberEnd) (p : Point) : Type 0 where
  pub first : NumberEnd
  pub second : NumberEnd
  pub first_listed : Contains xs first
  pub second_listed : Contains xs second
  pub apart : first.component ≢ second.component
  pub target : (x : NumberEnd) → Contains xs x → x.target ≡ p
  pub part : (x : NumberEnd) → Contains xs x → IsPart entry x
