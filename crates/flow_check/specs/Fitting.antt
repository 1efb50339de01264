-- Which sites fit what is found of the instructions at their blocks.
use Rattle.std.specs.{Prelude.{◌≡◌, ◌⊎◌, ⊤, ℕ, ◌<◌, List, length, slice_index_or, Some, None}, declared.option.Option.{Option}}
use Rattle.image_model.specs.declared.{site.Site.{Site}, image.Image.{Image}}
use Rattle.image_model.specs.declared.site.Form.TheVariants as form
use Rattle.image_model.specs.declared.site.Known.TheVariants as known
use Rattle.abstract_state.specs.{declared.table.PlainTable.{PlainTable}, Tables.{Inductive, sets_of}, Written.{IsWritten}}
use Rattle.flow_check.specs.declared.found.Findings.{Findings}
use Rattle.flow_check.specs.declared.found.Found.TheVariants as found
use Rattle.flow_check.specs.{declared.verdict.Verdict.{Verdict}, Found.{form_of, known_of}, Outcomes.{AreFound}, Verdicts.{IsVerdict}}

-- no instruction is found, or the form is the general one or that of what is found
abbrev pub IsFormFit : Option Findings → Option Site → Type 0
IsFormFit None site = ⊤
IsFormFit (Some x) None = ⊤
IsFormFit (Some x) (Some s) = (x.outcome ≡ found.None) ⊎ ((s.form ≡ form.General) ⊎ (s.form ≡ form_of x.outcome))

-- no instruction is found, or nothing is known of the status or what is found of it
abbrev pub IsKnownFit : Option Findings → Option Site → Type 0
IsKnownFit None site = ⊤
IsKnownFit (Some x) None = ⊤
IsKnownFit (Some x) (Some s) = (x.outcome ≡ found.None) ⊎ ((s.known ≡ known.Any) ⊎ (s.known ≡ known_of x.status))

module _ (P : Option Findings → Option Site → Type 0) (sites : List (Option Site)) (found : List (Option Findings)) where
  -- the sites of the blocks below this one fit
  abbrev pub AreFit : ℕ → Type 0
  AreFit blocks = (b : ℕ) → b < blocks → P (slice_index_or found b None) (slice_index_or sites b None)

  -- and the one at the block doesn't
  pub record IsFirstUnfit (b : ℕ) : Type 0 where
    pub known : b < length sites
    pub before : AreFit b
    pub unfit : P (slice_index_or found b None) (slice_index_or sites b None) → ⊥

abbrev pub AreFormsFit : List (Option Site) → List (Option Findings) → ℕ → Type 0
AreFormsFit sites found blocks = AreFit IsFormFit sites found blocks

abbrev pub AreKnownsFit : List (Option Site) → List (Option Findings) → ℕ → Type 0
AreKnownsFit sites found blocks = AreFit IsKnownFit sites found blocks

abbrev pub IsFirstFormUnfit : List (Option Site) → List (Option Findings) → ℕ → Type 0
IsFirstFormUnfit sites found b = IsFirstUnfit IsFormFit sites found b

abbrev pub IsFirstKnownUnfit : List (Option Site) → List (Option Findings) → ℕ → Type 0
IsFirstKnownUnfit sites found b = IsFirstUnfit IsKnownFit sites found b

-- where this is found over the rows of an inductive table, this is said of the image and the table
abbrev pub IsSaidBy : Image → List (Option Findings) → Verdict → Type 0
IsSaidBy i found said =
    (table : PlainTable) → IsWritten i.app table → Inductive i.app (sets_of table) → AreFound i.app table.rows found → IsVerdict i (sets_of table) said
