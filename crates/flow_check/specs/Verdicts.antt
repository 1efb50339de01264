-- What is said of an image and a table of its application.
use Rattle.std.specs.Prelude.{◌≡◌, ℕ, ◌<◌, length, Some}
use Rattle.osek_values.specs.declared.{event.Event.{Event}, numbers.ModeNo.{ModeNo}}
use Rattle.osek_standard.specs.declared.{app.App.{App}, state.State.{State}, point.Point.{Point}}
use Rattle.osek_standard.specs.{Kernel.{start, step}, Points.{point_of, point_number}}
use Rattle.image_model.specs.{declared.{site.{Form.{Form}, Known.{Known}}, image.Image.{Image}}, ImageStep.{form_at, known_at}}
use Rattle.abstract_state.specs.Tables.{Sets, In, Inductive}
use Rattle.dictated_forms.specs.Forms.{FormFits, KnownFits, Fits}
use Rattle.flow_check.specs.declared.verdict.Verdict.{Verdict}
use Rattle.flow_check.specs.declared.verdict.Verdict.TheVariants as verdict

-- the starts in the modes below this one are in the table
abbrev pub StartsIn : App → Sets → ℕ → Type 0
StartsIn app table modes = (m : ModeNo) → m.0 < modes → In app table (start app m).state

-- A step from a state in the table at the point leaves the table.
pub record Leaves (app : App) (table : Sets) (p : Point) : Type 0 where
  pub from : State
  pub event : Event
  pub inside : In app table from
  pub at : point_of from ≡ p
  pub out : In app table (step app from event).state → ⊥

-- no step from a point below this number leaves the table
abbrev pub StaysIn : App → Sets → ℕ → Type 0
StaysIn app table number = (p : Point) → point_number p < number → Leaves app table p → ⊥

-- the forms, and what is known of the statuses, of the sites below this block fit
abbrev pub FormsFit : Sets → Image → ℕ → Type 0
FormsFit table i blocks = (b : ℕ) (f : Form) → b < blocks → form_at i b ≡ Some f → FormFits i.app table b f

abbrev pub StatusesFit : Sets → Image → ℕ → Type 0
StatusesFit table i blocks = (b : ℕ) (k : Known) → b < blocks → known_at i b ≡ Some k → KnownFits i.app table b k

-- The start in the mode isn't in the table, and those in the modes before are.
pub record IsFirstStartOut (app : App) (table : Sets) (m : ModeNo) : Type 0 where
  pub mode : m.0 < length app.modes
  pub before : StartsIn app table m.0
  pub out : In app table (start app m).state → ⊥

-- Each start is in the table, a step from the point leaves it, and none from a point before does.
pub record IsFirstLeft (app : App) (table : Sets) (p : Point) : Type 0 where
  pub starts : StartsIn app table (length app.modes)
  pub before : StaysIn app table (point_number p)
  pub leaves : Leaves app table p

-- The table is inductive, and the form of the site at block b is the first that doesn't fit.
pub record IsFirstForm (table : Sets) (i : Image) (b : ℕ) : Type 0 where
  pub inductive : Inductive i.app table
  pub before : FormsFit table i b
  pub form : Form
  pub site : form_at i b ≡ Some form
  pub misfits : FormFits i.app table b form → ⊥

-- The table is inductive, all forms fit, and what is known at block b is the first that doesn't.
pub record IsFirstKnown (table : Sets) (i : Image) (b : ℕ) : Type 0 where
  pub inductive : Inductive i.app table
  pub forms : (c : ℕ) (f : Form) → form_at i c ≡ Some f → FormFits i.app table c f
  pub before : StatusesFit table i b
  pub known : Known
  pub site : known_at i b ≡ Some known
  pub misfits : KnownFits i.app table b known → ⊥

-- What is said: yes exactly where the table is inductive and the image fits it; else the least of what is wrong, by its number and
-- then by its place.
abbrev pub IsVerdict : Image → Sets → Verdict → Type 0
IsVerdict i table verdict.Yes = Inductive i.app table × Fits table i
IsVerdict i table (verdict.N1 m) = IsFirstStartOut i.app table m
IsVerdict i table (verdict.N2 p) = IsFirstLeft i.app table p
IsVerdict i table (verdict.N3 b) = IsFirstForm table i b.0
IsVerdict i table (verdict.N4 b) = IsFirstKnown table i b.0
