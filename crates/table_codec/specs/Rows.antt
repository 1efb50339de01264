-- What a reader of rows answers.
use Rattle.std.specs.{Prelude.{◌≡◌, ℕ, List, ◌∷◌, ◌++◌, Some, None}, List.{flat_map}, declared.option.Option.{Option}}
use Rattle.osek_standard.specs.declared.{app.App.{App}, point.Point.{Point}}
use Rattle.abstract_state.specs.{declared.table.{PlainEntry.{PlainEntry}, PlainTable.{PlainTable}}}
use Rattle.osek_standard.specs.Points.{points_in_order}
use Rattle.table_codec.specs.{Spelling.{point_bytes, IsSpellable}, Sets.{IsReadEntry}}

-- the point's byte stands at the start of the bytes, and its entry, if it has one; and these follow
abbrev pub IsReadRow : App → Point → (bytes rest : List ℕ) → Option PlainEntry → Type 0
IsReadRow app p bytes rest None = bytes ≡ 0 ∷ rest
IsReadRow app p bytes rest (Some entry) = (more : List ℕ) × (bytes ≡ 1 ∷ more) × IsReadEntry app p more rest entry

-- so do the rows of all points
pub record IsReadTable (app : App) (bytes rest : List ℕ) (table : PlainTable) : Type 0 where
  pub spellable : IsSpellable app table
  pub are : bytes ≡ flat_map (point_bytes app table.rows) (points_in_order app) ++ rest
