-- The answers of `check`, each with its cause and what it leaves.
use Rattle.std.specs.Prelude.{◌≡◌, ◌⊎◌, ◌<◌, ◌≤◌, ⊤, ℕ, List, length, slice_index_or, [], Option, Some, None, Result, Err, codes}
use Rattle.osek_values.specs.declared.limits.TheConstants.{MAX_TABLE}
use Rattle.osek_standard.specs.{declared.app.App.{App}, Points.{IsPoint}}
use Rattle.image_model.specs.declared.image.Image.{Image}
use Rattle.abstract_state.specs.{declared.table.PlainTable.{PlainTable}, Tables.{sets_of}, Written.{IsWritten}}
use Rattle.trace_text.specs.PointTexts.{block_text, point_text}
use Rattle.table_codec.specs.{declared.fault.{TableFault.{TableFault}, TableRule.TheVariants.{K6}}, Spelling.{spelling}, Faults.{IsFirstFault}}
use Rattle.flow_check.specs.{declared.verdict.Verdict.{Verdict}, Verdicts.{IsVerdict}}
use Rattle.flow_check.specs.declared.verdict.Verdict.TheVariants as verdict
use Rattle.osek_io.specs.Files.{Files}
use Rattle.command_runs.specs.{Inputs.{OfFile, InputStops}, Outside.{Told, Outside}, Replaying.{OfImage, ImageStops}}
use Rattle.command_runs.specs.declared.stop.{CheckRule.TheVariants.{N1, N2, N3, N4}, Denial.{Denial}, Stop.{Stop}}
use Rattle.command_runs.specs.declared.stop.Input.TheVariants as input
use Rattle.command_runs.specs.declared.stop.Stop.TheVariants as stop
use Rattle.commands.specs.Printing.{PrintAnswers}

-- the bytes spell the table of an application, within the limit of a table
pub record SpellTable (app : App) (bytes : List ℕ) (table : PlainTable) : Type 0 where
  pub within : length bytes ≤ MAX_TABLE
  pub written : IsWritten app table
  pub spelled : spelling app table ≡ bytes

-- the first fault of a table's bytes; a file over its limit is faulty before all else
abbrev pub IsTableFileFault : App → List ℕ → TableFault → Type 0
IsTableFileFault app bytes fault =
    ((MAX_TABLE < length bytes) × (fault ≡ record { rule = K6; offset = MAX_TABLE }))
    ⊎ ((length bytes ≤ MAX_TABLE) × IsFirstFault app bytes fault)

-- of the table of the application that the file's bytes spell P is true
abbrev pub OfTable : Option Files → (table : List ℕ) → App → (PlainTable → Type 0) → Type 0
OfTable files table app P = OfFile files table (λ b. (t : PlainTable) × SpellTable app b t × P t)

-- why a table isn't loaded
abbrev pub TableStops : (before after : Told) → (table : List ℕ) → App → Stop → Type 0
TableStops before after table app = InputStops before after input.Table table stop.Table (IsTableFileFault app)

-- what is told where the check says no: the rule, and the name of the mode, the point or the block
abbrev pub IsDenial : App → Verdict → Denial → Type 0
IsDenial app verdict.Yes d = ⊥
IsDenial app (verdict.N1 m) d = d ≡ record { rule = N1; place = slice_index_or app.modes m.0 [] }
IsDenial app (verdict.N2 p) d = d ≡ record { rule = N2; place = point_text app p }
IsDenial app (verdict.N3 b) d = d ≡ record { rule = N3; place = block_text b.0 }
IsDenial app (verdict.N4 b) d = d ≡ record { rule = N4; place = block_text b.0 }

-- yes, or how no is told
abbrev pub IsSaid : App → Verdict → Option Denial → Type 0
IsSaid app v None = v ≡ verdict.Yes
IsSaid app v (Some d) = IsDenial app v d

-- the mode or the point that a verdict names is the application's
abbrev pub HasKnownPlace : App → Verdict → Type 0
HasKnownPlace app (verdict.N1 m) = m.0 < length app.modes
HasKnownPlace app (verdict.N2 p) = IsPoint app p
HasKnownPlace app other = ⊤

-- The check says no of the image and the table, as it is told.
pub record IsDenied (i : Image) (table : PlainTable) (d : Denial) : Type 0 where
  pub verdict : Verdict
  pub is : IsVerdict i (sets_of table) verdict
  pub told : IsDenial i.app verdict d

-- The check says yes of them.
abbrev pub IsAgreed : Image → PlainTable → Type 0
IsAgreed i table = IsVerdict i (sets_of table) verdict.Yes

-- `check` stops at the image, at the table or at what it says of the two, and prints nothing; or it prints yes.
pub data CheckAnswers (before after : Outside) (image table : List ℕ) : Result (Unit {0}) Stop → Type 0 where
  no_image : (s : Stop) → ImageStops before.shelf after.shelf image s → after.out ≡ before.out → CheckAnswers before after image table (Err s)
  no_table : (s : Stop) → OfImage before.shelf.files image (λ i. TableStops before.shelf after.shelf table i.app s) → after.out ≡ before.out → CheckAnswers before after image table (Err s)
  denied : (d : Denial) → OfImage before.shelf.files image (λ i. OfTable before.shelf.files table i.app (λ t. IsDenied i t d)) → after.out ≡ before.out →
      CheckAnswers before after image table (Err (stop.Denied d))
  agreed : (r : Result (Unit {0}) Stop) → OfImage before.shelf.files image (λ i. OfTable before.shelf.files table i.app (IsAgreed i)) → PrintAnswers before after (codes "yes\n") r →
      CheckAnswers before after image table r
