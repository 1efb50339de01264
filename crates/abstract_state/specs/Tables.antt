-- Tables of possible states, judged by single steps of single states.
use Rattle.std.specs.{Prelude.{◌≡◌, ℕ, ◌<◌, Bool, true, false, ◌&&◌, ◌||◌, ◌==◌, [], length, slice_index_or, slice_set, sum_by, IsTrue, Some, None, Contains, All}, List.{list_any}}
use Rattle.std.specs.declared.option.Option.{Option}
use Rattle.osek_values.specs.declared.{event.Event.{Event}, numbers.{TaskNo.{TaskNo}, ModeNo.{ModeNo}}}
use Rattle.osek_standard.specs.{declared.{app.App.{App}, state.State.{State}, point.Point.{Point}}, Kernel.{start, step}, Well.{Well}}
use Rattle.osek_standard.specs.declared.point.Point.TheVariants as point
use Rattle.abstract_state.specs.declared.value.{Domain.{Domain}, PartValue.{PartValue}}
use Rattle.abstract_state.specs.declared.value.Domain.TheVariants as domain
use Rattle.abstract_state.specs.declared.table.{ValueSet.{ValueSet}, PlainEntry.{PlainEntry}, TableRow.{TableRow}, PlainTable.{PlainTable}}
use Rattle.osek_standard.specs.Points.{point_of, IsPoint}
use Rattle.abstract_state.specs.{ValueOrder.{same_part, IsAscending}, Components.{component_count, abstract_of, IsAllowed}, Regular.{IsRegular}}

-- What a table says, however it is written down: which points have an entry, and which values are in the entry's set
-- for component c.
pub record Sets : Type 0 where
  pub entry : Point → Bool
  pub has : Point → ℕ → PartValue → Bool

-- A state is in a table: its point has an entry, and each component of it is in its set. Mode, counter values, latches,
-- offsets, due times and cycles are free, and so is the order of the tasks in the line.
pub record In (app : App) (table : Sets) (s : State) : Type 0 where
  pub well : Well app s
  pub regular : IsRegular app s
  pub entry : IsTrue (table.entry (point_of s))
  pub within : (c : ℕ) → c < component_count app → IsTrue (table.has (point_of s) c (abstract_of app s c))

-- Each mode's start is in the table, and each step from a state in it leads to a state in it.
pub record Inductive (app : App) (table : Sets) : Type 0 where
  pub start : (mode : ModeNo) → mode.0 < length app.modes → In app table (start app mode).state
  pub step : (s : State) (e : Event) → In app table s → In app table (step app s e).state

-- an entry only where the other has one, and each set a subset
pub record IsContained (table other : Sets) : Type 0 where
  pub entry : (p : Point) → IsTrue (table.entry p) → IsTrue (other.entry p)
  pub has : (p : Point) (c : ℕ) (v : PartValue) → IsTrue (table.has p c v) → IsTrue (other.has p c v)

-- Inductive, and contained in every inductive table.
pub record Least (app : App) (table : Sets) : Type 0 where
  pub inductive : Inductive app table
  pub least : (other : Sets) → Inductive app other → IsContained table other

-- entries where both have one, and what both sets have; where a set is empty no state stands
abbrev pub meet : Sets → Sets → Sets
meet table other = record {
  entry = λ p. table.entry p && other.entry p;
  has = λ p c v. table.has p c v && other.has p c v;
}

-- an entry at each point, with every value
abbrev pub full : Sets
full = record { entry = λ p. true; has = λ p c v. true }

-- entries at the application's points alone, sets for its components alone, none of them empty, and made of values that
-- well-formed states have there
pub record IsProper (app : App) (table : Sets) : Type 0 where
  pub points : (p : Point) → IsTrue (table.entry p) → IsPoint app p
  pub entry : (p : Point) (c : ℕ) (v : PartValue) → IsTrue (table.has p c v) → IsTrue (table.entry p)
  pub known : (p : Point) (c : ℕ) (v : PartValue) → IsTrue (table.has p c v) → c < component_count app
  pub allowed : (p : Point) (c : ℕ) (v : PartValue) → IsTrue (table.has p c v) → IsAllowed app p c v
  pub filled : (p : Point) (c : ℕ) → IsTrue (table.entry p) → c < component_count app → (v : PartValue) × IsTrue (table.has p c v)

-- tests for equality
abbrev pub same_over : Option TaskNo → Option TaskNo → Bool
same_over None None = true
same_over (Some t) (Some u) = t.0 == u.0
same_over None (Some u) = false
same_over (Some t) None = false

abbrev pub same_point : Point → Point → Bool
same_point point.Halted point.Halted = true
same_point point.Idle point.Idle = true
same_point (point.Task b) (point.Task c) = b.0 == c.0
same_point (point.Routine b over) (point.Routine c under) = (b.0 == c.0) && same_over over under
same_point _ _ = false

-- a written table
abbrev pub empty_of : Domain → ValueSet
empty_of d = record { domain = d; members = [] }

-- what is read where an entry has no set
abbrev pub empty_set : ValueSet
empty_set = empty_of domain.Alarm

abbrev pub set_at : PlainEntry → ℕ → ValueSet
set_at entry c = slice_index_or entry.sets c empty_set

abbrev pub is_member : ValueSet → PartValue → Bool
is_member set v = list_any (same_part v) set.members

-- each member is one of the other
abbrev pub IsSubset : ValueSet → ValueSet → Type 0
IsSubset set other = (v : PartValue) → IsTrue (is_member set v) → IsTrue (is_member other v)

-- The join of two sets: its members are those of both.
pub record IsJoin (set other after : ValueSet) : Type 0 where
  pub domain : after.domain ≡ set.domain
  pub ascending : IsAscending after.members
  pub members : (v : PartValue) → is_member after v ≡ (is_member set v || is_member other v)

-- A join that stopped: no member is lost, and none is from elsewhere.
pub record IsPartOfJoin (set other after : ValueSet) : Type 0 where
  pub domain : after.domain ≡ set.domain
  pub ascending : IsAscending after.members
  pub keeps : IsSubset set after
  pub from : (v : PartValue) → IsTrue (is_member after v) → IsTrue (is_member set v || is_member other v)

abbrev pub entry_values : PlainEntry → ℕ
entry_values entry = sum_by (λ (set : ValueSet). length set.members) entry.sets

abbrev pub HasAscendingSets : PlainEntry → Type 0
HasAscendingSets entry = All (λ (set : ValueSet). IsAscending set.members) entry.sets

-- The sets for each component are so related, and there are as many after.
pub record IsSetBySet (P : ValueSet → ValueSet → ValueSet → Type 0) (entry other after : PlainEntry) : Type 0 where
  pub as_many : length after.sets ≡ length entry.sets
  pub each : (c : ℕ) → P (set_at entry c) (set_at other c) (set_at after c)

-- the set for component c is so related to another set, and the rest stays
pub record IsWrite (P : ValueSet → ValueSet → ValueSet → Type 0) (c : ℕ) (other : ValueSet) (entry after : PlainEntry) : Type 0 where
  pub set : ValueSet
  pub is : P (set_at entry c) other set
  pub written : after.sets ≡ slice_set entry.sets c set

abbrev pub is_row_of : Point → TableRow → Bool
is_row_of p row = same_point p row.point

-- What a written table says.
abbrev pub sets_of : PlainTable → Sets
sets_of table = record {
  entry = λ p. list_any (is_row_of p) table.rows;
  has = λ p c v. list_any (λ row. is_row_of p row && is_member (set_at row.entry c) v) table.rows;
}

-- The number of values in all sets of all entries.
abbrev pub value_count : PlainTable → ℕ
value_count table = sum_by (λ (row : TableRow). entry_values row.entry) table.rows

-- a row of the table is the point's
pub record HasRow (table : PlainTable) (p : Point) : Type 0 where
  pub row : TableRow
  pub among : Contains table.rows row
  pub point : row.point ≡ p

-- and its set for component c has the value
pub record HasValue (table : PlainTable) (p : Point) (c : ℕ) (v : PartValue) : Type 0 where
  pub row : TableRow
  pub among : Contains table.rows row
  pub point : row.point ≡ p
  pub member : Contains (set_at row.entry c).members v
