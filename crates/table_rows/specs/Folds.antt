-- A fold over the rows of a table: how what was made of some rows comes to be made of the next one too.
use Rattle.std.specs.Prelude.{◌≡◌, ◌<◌, List, [], ◌∷◌, ◌++◌, Contains}
use Rattle.osek_standard.specs.{declared.{app.App.{App}, point.Point.{Point}}, Points.{point_number}}
use Rattle.abstract_state.specs.declared.table.TableRow.{TableRow}
use Rattle.table_rows.specs.{declared.bare.BareExit.{BareExit}, BareExits.{AreBareExitsOf}}

-- The row comes next behind these: its point is above theirs, and these are its exits.
pub record IsNextRow (app : App) (rows : List TableRow) (row : TableRow) (exits : List BareExit) : Type 0 where
  pub above : (x : TableRow) → Contains rows x → point_number x.point < point_number row.point
  pub are : AreBareExitsOf app row exits

module _ {X : Type 0} where
  pub record IsOfSome (is_of : List TableRow → X → Type 0) (x : X) : Type 0 where
    pub rows : List TableRow
    pub is : is_of rows x

  -- it is of the next row too, that of the point
  abbrev pub TakesIn : App → (List TableRow → X → Type 0) → Point → List BareExit → X → X → Type 0
  TakesIn app is_of point exits before after =
      (rows : List TableRow) (row : TableRow) → row.point ≡ point → IsNextRow app rows row exits → is_of rows before → is_of (rows ++ row ∷ []) after

  -- with the row of the point it is what it was
  abbrev pub StaysFor : (List TableRow → X → Type 0) → Point → X → Type 0
  StaysFor is_of point x = (rows : List TableRow) (row : TableRow) → row.point ≡ point → is_of rows x → is_of (rows ++ row ∷ []) x
