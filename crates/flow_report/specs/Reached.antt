-- What the rows of a table show of the states in it.
use Rattle.std.specs.{Prelude.{◌≡◌, ◌⊎◌, ℕ, ◌<◌, nat_lt, Bool, true, false, List, length, IsTrue}, List.Sorted.{IsPartitionPoint}}
use Rattle.osek_values.specs.{declared.numbers.{BlockNo.{BlockNo}, ResNo.{ResNo}}, Numbers.{source_no}}
use Rattle.osek_standard.specs.declared.{app.App.{App}, point.Point.{Point}, state.State.{State}}
use Rattle.osek_standard.specs.declared.point.Point.TheVariants as point
use Rattle.osek_standard.specs.{Apps.{source_count}, Points.{point_of, StandsAt}, States.{is_taken}}
use Rattle.abstract_state.specs.declared.{value.PartValue.{PartValue}, table.{PlainEntry.{PlainEntry}, TableRow.{TableRow}}}
use Rattle.abstract_state.specs.declared.value.Component.TheVariants as component
use Rattle.abstract_state.specs.{Components.{abstract_of, component_number}, Tables.{Sets, In, set_at, is_member, sets_of}}
use Rattle.flow_model.specs.{declared.test.Test.{Test}, Tests.{passes}}
use Rattle.flow_model.specs.declared.test.Test.TheVariants as test
use Rattle.numbered_sets.specs.{declared.table.NumberedRow.{NumberedRow}, Pools.{Values}, PlainTables.{plain_table}}

-- the table that rows stand for
abbrev pub table_of : List Values → List NumberedRow → Sets
table_of pool rows = sets_of (plain_table pool rows)

-- an entry has a value of component c that passes
pub record HasPassing (c : ℕ) (t : Test) (entry : PlainEntry) : Type 0 where
  pub value : PartValue
  pub member : IsTrue (is_member (set_at entry c) value)
  pub passes : IsTrue (passes t value)

-- so has a state in the table
pub record ShowsState (c : ℕ) (t : Test) (app : App) (table : Sets) : Type 0 where
  pub state : State
  pub inside : In app table state
  pub passes : IsTrue (passes t (abstract_of app state c))

-- by a value of the row some task holds the resource
pub record IsHeldByTask (app : App) (r : ResNo) (row : TableRow) : Type 0 where
  pub task : ℕ
  pub known : task < length app.tasks
  pub value : HasPassing task (test.Holds r) row.entry

-- or some routine does
pub record IsHeldByRoutine (app : App) (r : ResNo) (row : TableRow) : Type 0 where
  pub source : ℕ
  pub known : source < source_count app
  pub value : HasPassing (component_number app (component.Source (source_no source))) (test.Holds r) row.entry

abbrev pub IsHeldIn : App → ResNo → TableRow → Type 0
IsHeldIn app r row = IsHeldByTask app r row ⊎ IsHeldByRoutine app r row

-- some task or routine holds the resource in a state of the table at the block
pub record IsTakenAt (app : App) (table : Sets) (b : BlockNo) (r : ResNo) : Type 0 where
  pub state : State
  pub inside : In app table state
  pub stands : StandsAt (point_of state) b
  pub taken : IsTrue (is_taken state r.0)

-- halted, idle, or of a block before this one
abbrev pub comes_before : Point → ℕ → Bool
comes_before point.Halted b = true
comes_before point.Idle b = true
comes_before (point.Task c) b = nat_lt c.0 b
comes_before (point.Routine c over) b = nat_lt c.0 b

-- just the rows below the place come before the block's points
abbrev pub ArePartedAt : List NumberedRow → ℕ → ℕ → Type 0
ArePartedAt rows b place = IsPartitionPoint (λ (row : NumberedRow). comes_before row.point b ≡ true) (λ (row : NumberedRow). comes_before row.point b ≡ false) rows place
