-- Rows of a table, as each state has one.
use Rattle.std.specs.Prelude.{ℕ, IsTrue}
use Rattle.osek_standard.specs.declared.app.App.{App}
use Rattle.abstract_state.specs.{declared.{value.PartValue.{PartValue}, table.TableRow.{TableRow}}}
use Rattle.abstract_state.specs.{Tables.{Sets, set_at, is_member}, Written.{IsRow}}
use Rattle.flow_model.specs.Effects.{AreAllAllowed}
use Rattle.flow_exits.specs.Exits.{IsFilled}

-- A row of a proper table: its values are allowed at its point, and no set is empty.
pub record IsProperRow (app : App) (x : TableRow) : Type 0 where
  pub row : IsRow app x
  pub allowed : AreAllAllowed app x.point x.entry
  pub filled : IsFilled app x.entry

-- The table has an entry at the row's point, with all the row's values.
pub record IsRowIn (table : Sets) (row : TableRow) : Type 0 where
  pub entry : IsTrue (table.entry row.point)
  pub has : (c : ℕ) (v : PartValue) → IsTrue (is_member (set_at row.entry c) v) → IsTrue (table.has row.point c v)
