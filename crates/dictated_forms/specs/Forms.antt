-- The forms and the known statuses that a table dictates.
use Rattle.std.specs.{Prelude.{◌≡◌, ◌≢◌, ◌⊎◌, ℕ, Bool, Some}, declared.option.Option.{Option}}
use Rattle.osek_values.specs.declared.status.Status.{Status}
use Rattle.osek_standard.specs.declared.{app.App.{App}, state.State.{State}}
use Rattle.osek_standard.specs.{States.{here}, Effects.{effect}, Dispatch.{Outcome, Keep, To, outcome}, Well.{IsActive}}
use Rattle.image_model.specs.declared.site.{Form.{Form}, Known.{Known}}
use Rattle.image_model.specs.declared.site.Form.TheVariants as form
use Rattle.image_model.specs.declared.site.Known.TheVariants as known
use Rattle.image_model.specs.{declared.image.Image.{Image}, ImageStep.{form_at, known_at}}
use Rattle.abstract_state.specs.Tables.{Sets, In}

-- some state in the table stands at block b, and its instruction has this outcome
pub record Occurs (app : App) (table : Sets) (b : ℕ) (o : Outcome) : Type 0 where
  pub from : State
  pub choice : Bool
  pub inside : In app table from
  pub active : IsActive from.processor
  pub stands : (here from).block.0 ≡ b
  pub is : outcome app from choice ≡ o

-- it occurs, and no other does
pub record OccursAlone (app : App) (table : Sets) (b : ℕ) (o : Outcome) : Type 0 where
  pub occurs : Occurs app table b o
  pub alone : (p : Outcome) → Occurs app table b p → p ≡ o

-- two different ones occur
pub record OccurTwo (app : App) (table : Sets) (b : ℕ) : Type 0 where
  pub one : Outcome
  pub other : Outcome
  pub one_occurs : Occurs app table b one
  pub other_occurs : Occurs app table b other
  pub differ : one ≢ other

-- The form that a table dictates at block b, by the outcomes that occur there.
abbrev pub FormOf : App → Sets → ℕ → Form → Type 0
FormOf app table b form.Never = (o : Outcome) → Occurs app table b o → ⊥
FormOf app table b form.Stay = OccursAlone app table b Keep
FormOf app table b (form.Direct x) = OccursAlone app table b (To x)
FormOf app table b form.General = OccurTwo app table b

-- some state in the table stands at block b, and its instruction notes this status, or none
pub record Noted (app : App) (table : Sets) (b : ℕ) (x : Option Status) : Type 0 where
  pub from : State
  pub choice : Bool
  pub inside : In app table from
  pub active : IsActive from.processor
  pub stands : (here from).block.0 ≡ b
  pub is : (effect app from choice).notes.status ≡ x

pub record NotedAlone (app : App) (table : Sets) (b : ℕ) (x : Option Status) : Type 0 where
  pub noted : Noted app table b x
  pub alone : (y : Option Status) → Noted app table b y → y ≡ x

pub record NotedTwo (app : App) (table : Sets) (b : ℕ) : Type 0 where
  pub one : Option Status
  pub other : Option Status
  pub one_noted : Noted app table b one
  pub other_noted : Noted app table b other
  pub differ : one ≢ other

-- What a table says of the status at block b: nothing where no state stands there or two differ in it, else the one that
-- each notes, or that each notes none.
abbrev pub KnownOf : App → Sets → ℕ → Known → Type 0
KnownOf app table b known.Any = ((x : Option Status) → Noted app table b x → ⊥) ⊎ NotedTwo app table b
KnownOf app table b (known.Always x) = NotedAlone app table b x

-- each site of an image has the form that a table of its application dictates
abbrev pub HasDictatedForms : Sets → Image → Type 0
HasDictatedForms table i = (b : ℕ) (f : Form) → form_at i b ≡ Some f → FormOf i.app table b f

-- of the status at each site is known what the table says
abbrev pub HasDictatedStatuses : Sets → Image → Type 0
HasDictatedStatuses table i = (b : ℕ) (k : Known) → known_at i b ≡ Some k → KnownOf i.app table b k

-- of the status at each site is known what the table says, or nothing
abbrev pub KnowsAtMost : Sets → Image → Type 0
KnowsAtMost table i = (b : ℕ) (k : Known) → known_at i b ≡ Some k → (k ≡ known.Any) ⊎ KnownOf i.app table b k

-- no state in the table stands at the block
abbrev pub IsUnreached : App → Sets → ℕ → Type 0
IsUnreached app table b = FormOf app table b form.Never

-- the form is the general one, or the one that the table dictates; any is, where no state stands
abbrev pub FormFits : App → Sets → ℕ → Form → Type 0
FormFits app table b f = IsUnreached app table b ⊎ (f ≡ form.General) ⊎ FormOf app table b f

-- nothing is known of the status, or what the table says; whatever it is, where no state stands
abbrev pub KnownFits : App → Sets → ℕ → Known → Type 0
KnownFits app table b k = IsUnreached app table b ⊎ (k ≡ known.Any) ⊎ KnownOf app table b k

-- An image fits a table of its application: each site has a form that fits, and knows of its status what fits.
pub record Fits (table : Sets) (i : Image) : Type 0 where
  pub forms : (b : ℕ) (f : Form) → form_at i b ≡ Some f → FormFits i.app table b f
  pub statuses : (b : ℕ) (k : Known) → known_at i b ≡ Some k → KnownFits i.app table b k
