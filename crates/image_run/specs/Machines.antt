-- A machine at work, and what an event makes of it.
use Rattle.std.specs.{Prelude.{ℕ, List, Bool, true, Option, Some, None, Ok, Err, refl, if◌then◌else◌}, Coded.{Coded, code_by, coded×, coded_bool}}
use Rattle.std.specs.{declared.result.Result.{Result}}
use Rattle.osek_values.specs.declared.{event.Event.{Event}, notes.Notes.{Notes}}
use Rattle.osek_standard.specs.{declared.state.State.{State}, Dispatch.{Stepped}, Internal.{IsInside}, Well.{Well}}
use Rattle.image_model.specs.{declared.image.Image.{Image}, contracts.image.Image.{the_row as image_row}}
use Rattle.osek_standard.specs.contracts.state.State.{the_row as state_row}
use Rattle.generic_kernel.specs.Levels.{IsReady}
use Rattle.image_model.specs.ImageStep.{image_step}

-- the image that it replays, the state, and whether it trapped
pub record AtWork : Type 0 where
  pub image : Image
  pub state : State
  pub trapped : Bool

abbrev pub at_work : Image → State → Bool → AtWork
at_work i s t = record { image = i; state = s; trapped = t }

-- it is stored as the triple of these
abbrev pub at_work_code : Coded AtWork
at_work_code =
    code_by (Image × (State × Bool)) (coded× image_row.coded (coded× state_row.coded coded_bool)) (λ m. (m.image, (m.state, m.trapped)))
    (λ p. at_work p.0 p.1.0 p.1.1) (λ _. refl)

-- the machine after an event, and what was noted; none at a trap
pub record Turn : Type 0 where
  pub machine : AtWork
  pub notes : Option Notes

abbrev pub turned : AtWork → Option Notes → Turn
turned m n = record { machine = m; notes = n }

-- a step of the image: a trap leaves the state as it was
abbrev pub turned_by : AtWork → Option Stepped → Turn
turned_by m None = turned (record m { trapped = true }) None
turned_by m (Some n) = turned (record m { state = n.state }) (Some n.notes)

-- after a trap each event is the same trap
abbrev pub turn : AtWork → Event → Turn
turn m e = if m.trapped then turned m None else turned_by m (image_step m.image m.state e)

abbrev pub noted : {X : Type 0} → Result Notes X → Option Notes
noted (Ok n) = Some n
noted (Err e) = None

-- the state of a machine is one of its application with the right tasks inside INTERNAL resources, and the Live tasks are those
-- of the state
pub record AreWell (i : Image) (s : State) (levels : List (Option ℕ)) : Type 0 where
  pub state : Well i.app s
  pub inside : IsInside i.app s
  pub ready : IsReady i.app s levels
