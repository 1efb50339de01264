-- The outcomes and the statuses of the instructions at a block, by the rows of a table.
use Rattle.std.specs.{Prelude.{◌≡◌, ℕ, ◌<◌, Bool, not, List, [], ◌∷◌, ◌++◌, length, slice_index_or, IsTrue, Some, None, Contains, if◌then◌else◌}, declared.option.Option.{Option}}
use Rattle.osek_values.specs.{Numbers.{block_no}, declared.status.Status.{Status}}
use Rattle.osek_standard.specs.{declared.{app.App.{App}, state.State.{State}, point.Point.{Point}}, Apps.{is_site}, Effects.{effect}, Dispatch.{outcome}, Points.{StandsAt}}
use Rattle.osek_standard.specs.Well.{IsActive}
use Rattle.abstract_state.specs.declared.table.TableRow.{TableRow}
use Rattle.flow_model.specs.{declared.case.Decision.{Decision}, Effects.{IsAt}, Scheduling.{outcome_of_decision}}
use Rattle.flow_check.specs.declared.found.Findings.{Findings}
use Rattle.flow_check.specs.declared.found.Found.TheVariants as found
use Rattle.table_rows.specs.{declared.bare.BareExit.{BareExit}, BareExits.{AreBareExitsOf}}
use Rattle.flow_check.specs.Found.{AreFindings}

-- the status that an instruction notes, if it notes one
abbrev pub status_noted : App → State → Bool → Option Status
status_noted app s choice = (effect app s choice).notes.status

module _ {X : Type 0} (app : App) (read : State → Bool → X) where
  -- this is read of the instruction of some state of the row
  pub record Arises (row : TableRow) (x : X) : Type 0 where
    pub from : State
    pub choice : Bool
    pub at : IsAt app row.point row.entry from
    pub active : IsActive from.processor
    pub is : read from choice ≡ x

  -- and of that of some state of a row at block b
  pub record ArisesAt (rows : List TableRow) (b : ℕ) (x : X) : Type 0 where
    pub row : TableRow
    pub among : Contains rows row
    pub stands : StandsAt row.point (block_no b)
    pub arises : Arises row x

module _ {X : Type 0} (told : BareExit → Decision → X) where
  -- the exit is an instruction's, of which this is told
  pub record IsOfExit (x : BareExit) (v : X) : Type 0 where
    pub decision : Decision
    pub decides : x.decision ≡ Some decision
    pub is : v ≡ told x decision

  -- so it is of one of these exits
  pub record IsOfExits (exits : List BareExit) (v : X) : Type 0 where
    pub exit : BareExit
    pub among : Contains exits exit
    pub is : IsOfExit exit v

-- what is found of the instructions of the states of a row
abbrev pub AreOfRow : App → TableRow → Findings → Type 0
AreOfRow app row x = AreFindings (Arises app (outcome app) row) (Arises app (status_noted app) row) x

-- what is found of exits
abbrev pub AreOfExits : List BareExit → Findings → Type 0
AreOfExits exits x = AreFindings (IsOfExits (λ (x : BareExit) (d : Decision). outcome_of_decision d) exits) (IsOfExits (λ (x : BareExit) (d : Decision). x.status) exits) x

-- what is found at block b over these rows, where it is a site
abbrev pub IsFoundAt : App → List TableRow → ℕ → Option Findings → Type 0
IsFoundAt app rows b None = IsTrue (not (is_site app b))
IsFoundAt app rows b (Some x) = IsTrue (is_site app b) × AreFindings (ArisesAt app (outcome app) rows b) (ArisesAt app (status_noted app) rows b) x

-- what is found at each block over these rows
pub record AreFound (app : App) (rows : List TableRow) (sites : List (Option Findings)) : Type 0 where
  pub count : length sites ≡ length app.blocks
  pub each : (b : ℕ) → b < length app.blocks → IsFoundAt app rows b (slice_index_or sites b None)

-- with a row more at the point, whose exits are these, this is found at each block
abbrev pub IsFoundBeside : Point → List BareExit → List (Option Findings) → List (Option Findings) → Type 0
IsFoundBeside point exits before after =
    (app : App) (rows : List TableRow) (row : TableRow) → row.point ≡ point → AreBareExitsOf app row exits
    → AreFound app rows before → AreFound app (rows ++ row ∷ []) after

-- what is found at a block before the first row
abbrev pub first_found : App → ℕ → Option Findings
first_found app b = if is_site app b then Some (record { outcome = found.None; status = None }) else None
