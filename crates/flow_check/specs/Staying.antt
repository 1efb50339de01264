-- Whether the exits of a point lead into a table.
use Rattle.std.specs.Prelude.{◌≡◌, ◌⊎◌, ⊤, ℕ, ◌<◌, List, length, map, IsTrue, Contains}
use Rattle.osek_standard.specs.{declared.{app.App.{App}, point.Point.{Point}}, Points.{point_number}}
use Rattle.abstract_state.specs.declared.{value.PartValue.{PartValue}, table.TableRow.{TableRow}}
use Rattle.abstract_state.specs.{Components.{component_count}, Tables.{Sets, set_at, is_member}}
use Rattle.flow_exits.specs.declared.exit.Exit.{Exit}
use Rattle.numbered_sets.specs.declared.{numbered_entry.NumberedEntry.{NumberedEntry}, table.NumberedRow.{NumberedRow}}
use Rattle.numbered_sets.specs.{NumberedEntries.{numbers_at, IsBelowNumbers}, Within.{HasNumberBeside}, PlainTables.{row_at}}
use Rattle.point_exits.specs.{declared.group.{NumberEnd.{NumberEnd}, Ends.{Ends}, ExitGroup.{ExitGroup}}, Groups.{with_end}}
use Rattle.point_exits.specs.declared.group.Ends.TheVariants as ends
use Rattle.flow_check.specs.Rows.{IsRowWith, HasNoRowWith}

-- ---- by values

-- the row has a value that the table lacks at its point
pub record LacksValue (app : App) (table : Sets) (row : TableRow) : Type 0 where
  pub component : ℕ
  pub value : PartValue
  pub known : component < component_count app
  pub member : IsTrue (is_member (set_at row.entry component) value)
  pub lacks : IsTrue (table.has row.point component value) → ⊥

-- The table has no entry at the row's point, or it lacks a value of the row there.
abbrev pub IsRowOut : App → Sets → TableRow → Type 0
IsRowOut app table row = (IsTrue (table.entry row.point) → ⊥) ⊎ LacksValue app table row

-- the row of an exit
abbrev pub exit_row : Exit → TableRow
exit_row x = row_at x.target x.entry

-- ---- by numbers

-- a point at which a step ends, and the numbers with which it does
pub record NumberedEnd : Type 0 where
  pub target : Point
  pub entry : NumberedEntry

abbrev pub end_at : Point → NumberedEntry → NumberedEnd
end_at p entry = record { target = p; entry = entry }

-- the ends of a group of exits
abbrev pub ends_by : NumberedEntry → Ends → List NumberedEnd
ends_by entry (ends.At points) = map (λ (p : Point). end_at p entry) points
ends_by entry (ends.With xs) = map (λ (x : NumberEnd). end_at x.target (with_end entry x)) xs

-- the component of an end has a set, of the same domain as its numbers
pub record HasSetOf (entry : NumberedEntry) (x : NumberEnd) : Type 0 where
  pub component : x.component < length entry.sets
  pub domain : x.numbers.domain ≡ (numbers_at entry x.component).domain

abbrev pub HasSetFor : NumberedEntry → Ends → Type 0
HasSetFor entry (ends.At points) = ⊤
HasSetFor entry (ends.With xs) = (x : NumberEnd) → Contains xs x → HasSetOf entry x

-- its point has a row, with all of its numbers
pub record IsIn (rows : List NumberedRow) (x : NumberedEnd) : Type 0 where
  pub row : NumberedRow
  pub is : IsRowWith rows (point_number x.target) row
  pub below : IsBelowNumbers x.entry row.entry

-- its point has a row, which lacks one of its numbers
pub record LacksNumber (rows : List NumberedRow) (x : NumberedEnd) : Type 0 where
  pub row : NumberedRow
  pub is : IsRowWith rows (point_number x.target) row
  pub beside : HasNumberBeside x.entry.sets row.entry.sets

abbrev pub IsOut : List NumberedRow → NumberedEnd → Type 0
IsOut rows x = HasNoRowWith rows (point_number x.target) ⊎ LacksNumber rows x

abbrev pub AreEndsIn : List NumberedRow → List NumberedEnd → Type 0
AreEndsIn rows xs = (x : NumberedEnd) → Contains xs x → IsIn rows x

pub record IsSomeOut (rows : List NumberedRow) (xs : List NumberedEnd) : Type 0 where
  pub end : NumberedEnd
  pub among : Contains xs end
  pub out : IsOut rows end

-- so it is with each group
abbrev pub AreAllIn : List NumberedRow → List ExitGroup → Type 0
AreAllIn rows groups = (g : ExitGroup) → Contains groups g → AreEndsIn rows (ends_by g.entry g.ends)

pub record IsSomeGroupOut (rows : List NumberedRow) (groups : List ExitGroup) : Type 0 where
  pub group : ExitGroup
  pub among : Contains groups group
  pub out : IsSomeOut rows (ends_by group.entry group.ends)
