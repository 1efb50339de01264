-- Exits without their values: the point where each ends, what the scheduler decided, and the status that is noted.
use Rattle.std.specs.Prelude.{◌≡◌, List, Contains}
use Rattle.osek_standard.specs.declared.{app.App.{App}, point.Point.{Point}}
use Rattle.abstract_state.specs.declared.table.TableRow.{TableRow}
use Rattle.flow_exits.specs.declared.exit.Exit.{Exit}
use Rattle.point_exits.specs.declared.group.ExitGroup.{ExitGroup}
use Rattle.table_rows.specs.{declared.bare.{BareExit.{BareExit}, PointExits.{PointExits}}, Rows.{AreExitsOf}}

-- the exit without its values
abbrev pub bare_exit : Exit → BareExit
bare_exit x = record { target = x.target; decision = x.decision; status = x.status }

-- an exit of the group, at a point, without its values
abbrev pub bare_end : ExitGroup → Point → BareExit
bare_end g p = record { target = p; decision = g.decision; status = g.status }

-- it is one of these exits without its values
pub record IsBareOfOne (exits : List Exit) (x : BareExit) : Type 0 where
  pub exit : Exit
  pub listed : Contains exits exit
  pub is : x ≡ bare_exit exit

-- These are the exits without their values.
pub record AreBare (exits : List Exit) (bare : List BareExit) : Type 0 where
  pub each : (x : BareExit) → Contains bare x → IsBareOfOne exits x
  pub all : (x : Exit) → Contains exits x → Contains bare (bare_exit x)

-- These are the exits of a row without their values.
pub record AreBareExitsOf (app : App) (row : TableRow) (exits : List BareExit) : Type 0 where
  pub whole : List Exit
  pub are : AreExitsOf app row whole
  pub bare : AreBare whole exits

-- The exits that are known of points are those of the rows there.
abbrev pub AreKnownExits : App → List TableRow → List PointExits → Type 0
AreKnownExits app rows known = (x : PointExits) (row : TableRow) → Contains known x → Contains rows row → row.point ≡ x.point → AreBareExitsOf app row x.exits
