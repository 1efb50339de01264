-- What holds of the answers that are due, of what is built and then replayed, of what is upgraded, certified, recorded and reported.
use Rattle.std.specs.{Prelude.{◌≡◌, ◌<◌, ◌≤◌, ⊤, ℕ, List, length, All, Contains, Option, Some, None, Result, Ok}, FinMap.{get}}
use Rattle.osek_values.specs.declared.{event.Event.{Event}, limits.TheConstants.{MAX_RECORD}, numbers.ModeNo.{ModeNo}}
use Rattle.osek_standard.specs.{declared.app.App.{App}, TraceText.{kernel_trace}}
use Rattle.oil_system.specs.declared.system.System.{System}
use Rattle.front_end.specs.Texts.{DeclaresSystem, GivesApp}
use Rattle.image_model.specs.declared.image.Image.{Image}
use Rattle.image_codec.specs.Spelling.{spelling}
use Rattle.image_model.specs.{ImageTrace.{image_run, image_trace, has_trap}, Upgrades.{IsUpgraded}}
use Rattle.image_fields.specs.Reading.{AreBytes}
use Rattle.trace_text.specs.{EventText.{read_text}, RecordText.{record_text}}
use Rattle.osek_io.specs.Files.{Files}
use Rattle.commands.specs.{Fitting.{IsKernelImage, IsFitted, IsLeastTable}, Due.{ImageDue, ImageRuns, WatchDue, IsDue}}
use Rattle.command_runs.specs.{Replaying.{SpellImage}, Running.{mode_named, whole_run}, Shown.{image_points}}
use Rattle.commands.specs.{Certifying.{IsCertified}, Reporting.{AreLeastFindings}, Words.{Command, Certify, Check, Watch}}
use Rattle.flow_report.specs.{declared.finding.Finding.{Finding}, Findings.{Denies}}
use Rattle.flow_watch.specs.Records.{record_of}
use Rattle.table_codec.specs.Spelling.{spelling as table_spelling}
use Rattle.abstract_state.specs.declared.table.PlainTable.{PlainTable}
use Rattle.command_runs.specs.declared.stop.Stop.{Stop}

-- Where the image's file holds what `build` stores, the mode is named, and the event text has no fault, `replay` is done.
abbrev pub WhatIsBuiltReplays : Type 0
WhatIsBuiltReplays = (files : Files) (image mode events : List ℕ) (app : App) (i : Image) (m : ModeNo) (text : List ℕ)
    → IsKernelImage app i → get files image ≡ Some (spelling i) → mode_named app mode ≡ Some m → get files events ≡ Some text → (read_text app text).fault ≡ None
    → ImageDue files image (ImageRuns files mode events) (Ok tt)

-- What it prints then is the kernel's trace.
abbrev pub WhatIsBuiltIsTheKernel : Type 0
WhatIsBuiltIsTheKernel = (app : App) (i : Image) (m : ModeNo) (text : List ℕ) → IsKernelImage app i → m.0 < length app.modes
    → image_trace i m (read_text app text).events ≡ kernel_trace app m (read_text app text).events

-- Where one file holds an image, and another what `upgrade` makes of it, `replay` of the one is due what `replay` of the other is,
abbrev pub WhatIsUpgradedReplays : Type 0
WhatIsUpgradedReplays = (files : Files) (image upgraded mode events bytes : List ℕ) (i j : Image) (r : Result (Unit {0}) Stop)
    → get files image ≡ Some bytes → SpellImage bytes i → IsUpgraded i j → get files upgraded ≡ Some (spelling j)
    → ImageDue files image (ImageRuns files mode events) r → ImageDue files upgraded (ImageRuns files mode events) r

-- and prints and ends the same.
abbrev pub WhatIsUpgradedPrintsTheSame : Type 0
WhatIsUpgradedPrintsTheSame = (i j : Image) (m : ModeNo) (text : List ℕ) → IsUpgraded i j
    → whole_run j.app (image_trace j) (has_trap j) m text ≡ whole_run i.app (image_trace i) (has_trap i) m text

-- the bytes are those of the image that is fitted to the application of the two texts
pub record AreBuiltFrom (oil code bytes : List ℕ) : Type 0 where
  pub system : System
  pub declares : DeclaresSystem oil system
  pub app : App
  pub gives : GivesApp system code app
  pub image : Image
  pub fitted : IsFitted app image
  pub are : bytes ≡ spelling image

-- What `build` stores is a function of its two texts.
abbrev pub OneImageIsBuilt : Type 0
OneImageIsBuilt = (oil code bytes others : List ℕ) → AreBuiltFrom oil code bytes → AreBuiltFrom oil code others → bytes ≡ others

-- Where two files hold what `certify` stores, `check` of the two says yes.
abbrev pub WhatIsCertifiedIsChecked : Type 0
WhatIsCertifiedIsChecked = (files : Files) (image table : List ℕ) (app : App) (i : Image) (t : PlainTable)
    → IsCertified app i t → get files image ≡ Some (spelling i) → get files table ≡ Some (table_spelling app t) → IsDue files (Some (Check image table)) (Ok tt)

-- An image of which `check` says yes is the kernel of its application, whoever made it and the table.
abbrev pub WhatIsCheckedIsAKernelImage : Type 0
WhatIsCheckedIsAKernelImage = (files : Files) (image table bytes : List ℕ) (i : Image)
    → IsDue files (Some (Check image table)) (Ok tt) → get files image ≡ Some bytes → SpellImage bytes i → IsKernelImage i.app i

-- What `record` prints of an image that `build` stores is the record of the kernel's run.
abbrev pub WhatIsRecordedIsTheKernels : Type 0
WhatIsRecordedIsTheKernels = (app : App) (i : Image) (m : ModeNo) (events : List Event) → IsFitted app i → m.0 < length app.modes
    → image_points i m events ≡ record_text app (record_of app m events)

-- Where a file holds it, within the limit of a record, it is quiet.
abbrev pub WhatIsRecordedIsQuiet : Type 0
WhatIsRecordedIsQuiet = (files : Files) (points : List ℕ) (app : App) (i : Image) (m : ModeNo) (events : List Event)
    → IsFitted app i → m.0 < length app.modes → get files points ≡ Some (image_points i m events) → length (image_points i m events) ≤ MAX_RECORD
    → (table : PlainTable) → IsLeastTable app table → WatchDue files points app (Ok tt)

-- What a finding of the least table of an application denies never comes in a run of the image that `build` stores of it.
abbrev pub WhatIsReportedNeverComes : Type 0
WhatIsReportedNeverComes = (app : App) (findings : List Finding) (f : Finding) (i : Image) (mode : ModeNo) (es : List Event)
    → AreLeastFindings app findings → Contains findings f → IsFitted app i → mode.0 < length app.modes → All (λ x. Denies app f x → ⊥) (image_run i mode es).steps

-- the files hold bytes
abbrev pub HoldBytes : Files → Type 0
HoldBytes files = (name bytes : List ℕ) → get files name ≡ Some bytes → AreBytes bytes

-- what ends these commands is known by an analysis alone
abbrev pub IsAnalyzed : Option Command → Type 0
IsAnalyzed (Some (Certify oil code image table)) = ⊤
IsAnalyzed (Some (Check image table)) = ⊤
IsAnalyzed (Some (Watch oil code points)) = ⊤
IsAnalyzed other = ⊥

-- Over files of bytes some answer is due to each other command,
abbrev pub SomeIsDue : Type 0
SomeIsDue = (files : Files) (command : Option Command) → HoldBytes files → (IsAnalyzed command → ⊥) → (answer : Result (Unit {0}) Stop) × IsDue files command answer

-- and one at most to any.
abbrev pub OneIsDue : Type 0
OneIsDue = (files : Files) (command : Option Command) (a b : Result (Unit {0}) Stop) → IsDue files command a → IsDue files command b → a ≡ b
