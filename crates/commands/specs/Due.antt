-- Which answer is due over files that the shelf tells, where no read or write fails and memory suffices: the first cause
-- in the order in which a command reads and judges its inputs.
use Rattle.std.specs.{Prelude.{◌≡◌, ℕ, ◌<◌, ◌≤◌, nat_le, Bool, List, length, Option, Some, None, Result, Ok, Err, if◌then◌else◌}, FinMap.{get}}
use Rattle.osek_values.specs.declared.{event.Event.{Event}, limits.TheConstants.{MAX_RECORD, MAX_TABLE}, numbers.ModeNo.{ModeNo}, refusal.Refusal.{Refusal}}
use Rattle.osek_standard.specs.declared.app.App.{App}
use Rattle.oil_system.specs.declared.system.System.{System}
use Rattle.front_end.specs.{Texts.{DeclaresSystem, GivesApp}, Answers.{IsOilRefusal, IsCodeRefusal}}
use Rattle.image_model.specs.declared.image.{Image.{Image}, Version.{Version}}
use Rattle.image_model.specs.declared.image.Version.TheVariants as version
use Rattle.image_codec.specs.declared.fault.ImageFault.{ImageFault}
use Rattle.image_model.specs.ImageTrace.{has_trap}
use Rattle.trace_text.specs.EventText.{read_text}
use Rattle.osek_io.specs.{Counts.{Rose}, Files.{Files}}
use Rattle.abstract_state.specs.{declared.table.PlainTable.{PlainTable}, Tables.{sets_of}}
use Rattle.table_codec.specs.{declared.fault.TableFault.{TableFault}, Spelling.{spelling as table_spelling}}
use Rattle.commands.specs.{Checking.{SpellTable, IsTableFileFault, IsDenied, IsAgreed}, Fitting.{IsLeastTable}}
use Rattle.commands.specs.GeneratedFiles.{oil_name, code_name, events_name, default_mode}
use Rattle.command_runs.specs.{Inputs.{over_limit}, Outside.{Outside}, Playing.{Played}, Replaying.{SpellImage, IsImageFault}, Running.{mode_named, end_of}}
use Rattle.commands.specs.{Tracing.{never}, Watching.{IsWatched}, Words.{Command, Build, Replay, Trace, Show, Report, Info, Gen, Upgrade, Certify, Check, Record, Watch}}
use Rattle.command_runs.specs.declared.stop.{Denial.{Denial}, Input.TheVariants.{Oil, Code, Image as image_file, Table as table_file, Events, Record as record_file}, Stop.{Stop}}
use Rattle.command_runs.specs.declared.stop.Stop.TheVariants as stop

-- no count of faults rose
pub record IsCalm (before after : Outside) : Type 0 where
  pub reads : (name : List ℕ) (at : ℕ) → Rose (before.shelf.reads name at) (after.shelf.reads name at) → ⊥
  pub writes : Rose before.shelf.writes after.shelf.writes → ⊥
  pub out : Rose before.out.faults after.out.faults → ⊥

-- a run: the mode, the event text, and then its lines
pub data RunDue (files : Files) (app : App) (traps : ModeNo → List Event → Bool) (mode events : List ℕ) : Result (Unit {0}) Stop → Type 0 where
  no_mode : mode_named app mode ≡ None → RunDue files app traps mode events (Err stop.NoMode)
  no_events : (m : ModeNo) → mode_named app mode ≡ Some m → get files events ≡ None → RunDue files app traps mode events (Err (stop.Unread Events))
  ends : (m : ModeNo) (text : List ℕ) → mode_named app mode ≡ Some m → get files events ≡ Some text → RunDue files app traps mode events (end_of (traps m (read_text app text).events) (read_text app text).fault)

-- the image, and what comes behind it
pub data ImageDue (files : Files) (image : List ℕ) (Next : Image → Result (Unit {0}) Stop → Type 0) : Result (Unit {0}) Stop → Type 0 where
  no_image : get files image ≡ None → ImageDue files image Next (Err (stop.Unread image_file))
  bad_image : (bytes : List ℕ) (fault : ImageFault) → get files image ≡ Some bytes → IsImageFault bytes fault → ImageDue files image Next (Err (stop.Image fault))
  is_read : (bytes : List ℕ) (i : Image) (r : Result (Unit {0}) Stop) → get files image ≡ Some bytes → SpellImage bytes i → Next i r → ImageDue files image Next r

-- `replay` and `record` run the image, `info` is done, `upgrade` is done where it is of version 1
abbrev pub ImageRuns : Files → (mode events : List ℕ) → Image → Result (Unit {0}) Stop → Type 0
ImageRuns files mode events i r = RunDue files i.app (has_trap i) mode events r

-- an image of version 1 is upgraded, and one of version 2 is new already
abbrev pub upgrade_end : Version → Result (Unit {0}) Stop
upgrade_end version.One = Ok tt
upgrade_end version.Two = Err stop.AlreadyNew

abbrev pub Upgrades : Image → Result (Unit {0}) Stop → Type 0
Upgrades i r = r ≡ upgrade_end i.version

abbrev pub InfoDue : Image → Result (Unit {0}) Stop → Type 0
InfoDue i r = r ≡ Ok tt

-- the table of an application, and what comes behind it
pub data TableDue (files : Files) (table : List ℕ) (app : App) (Next : PlainTable → Result (Unit {0}) Stop → Type 0) : Result (Unit {0}) Stop → Type 0 where
  no_table : get files table ≡ None → TableDue files table app Next (Err (stop.Unread table_file))
  bad_table : (bytes : List ℕ) (fault : TableFault) → get files table ≡ Some bytes → IsTableFileFault app bytes fault → TableDue files table app Next (Err (stop.Table fault))
  is_table : (bytes : List ℕ) (t : PlainTable) (r : Result (Unit {0}) Stop) → get files table ≡ Some bytes → SpellTable app bytes t → Next t r → TableDue files table app Next r

-- what the check says of an image and a table
pub data CheckDue (i : Image) (table : PlainTable) : Result (Unit {0}) Stop → Type 0 where
  agreed : IsAgreed i table → CheckDue i table (Ok tt)
  denied : (d : Denial) → IsDenied i table d → CheckDue i table (Err (stop.Denied d))

abbrev pub ImageIsJudged : Files → (table : List ℕ) → Image → Result (Unit {0}) Stop → Type 0
ImageIsJudged files table i r = TableDue files table i.app (CheckDue i) r

-- a table is stored where its bytes are within the limit
abbrev pub certify_end : (length : ℕ) → Result (Unit {0}) Stop
certify_end n = if nat_le n MAX_TABLE then Ok tt else Err stop.TooLong

pub record IsCertifiedBy (app : App) (r : Result (Unit {0}) Stop) : Type 0 where
  pub table : PlainTable
  pub least : IsLeastTable app table
  pub end : r ≡ certify_end (length (table_spelling app table))

-- the OIL text, the task code, and what comes behind them
pub data TextsDue (files : Files) (oil code : List ℕ) (Next : App → Result (Unit {0}) Stop → Type 0) : Result (Unit {0}) Stop → Type 0 where
  no_oil : get files oil ≡ None → TextsDue files oil code Next (Err (stop.Unread Oil))
  bad_oil : (text : List ℕ) (r : Refusal) → get files oil ≡ Some text → IsOilRefusal text r → TextsDue files oil code Next (Err (stop.Refused r))
  no_code : (text : List ℕ) (s : System) → get files oil ≡ Some text → DeclaresSystem text s → get files code ≡ None → TextsDue files oil code Next (Err (stop.Unread Code))
  bad_code : (text : List ℕ) (s : System) (code_text : List ℕ) (r : Refusal) → get files oil ≡ Some text → DeclaresSystem text s → get files code ≡ Some code_text → IsCodeRefusal s code_text r →
      TextsDue files oil code Next (Err (stop.Refused r))
  goes_on : (text : List ℕ) (s : System) (code_text : List ℕ) (app : App) (r : Result (Unit {0}) Stop) → get files oil ≡ Some text → DeclaresSystem text s → get files code ≡ Some code_text →
      GivesApp s code_text app → Next app r → TextsDue files oil code Next r

-- the record, its length, and then its points by the least table
pub data WatchDue (files : Files) (points : List ℕ) (app : App) : Result (Unit {0}) Stop → Type 0 where
  no_record : get files points ≡ None → WatchDue files points app (Err (stop.Unread record_file))
  too_long : (text : List ℕ) → get files points ≡ Some text → MAX_RECORD < length text → WatchDue files points app (Err (over_limit record_file))
  is_watched : (text : List ℕ) (table : PlainTable) (p : Played) → get files points ≡ Some text → length text ≤ MAX_RECORD → IsLeastTable app table → IsWatched app (sets_of table) text p →
      WatchDue files points app p.end

-- `build`, `show` and `report` are done where both texts give an application; `trace` runs it, and never traps
abbrev pub IsBuilt : App → Result (Unit {0}) Stop → Type 0
IsBuilt app r = r ≡ Ok tt

-- a run of the system that is there in memory
abbrev pub OwnDue : Files → Result (Unit {0}) Stop → Type 0
OwnDue files r = TextsDue files oil_name code_name (λ app. RunDue files app never default_mode events_name) r

abbrev pub IsDue : Files → Option Command → Result (Unit {0}) Stop → Type 0
IsDue files None r = r ≡ Err stop.Usage
IsDue files (Some (Build oil code image)) r = TextsDue files oil code IsBuilt r
IsDue files (Some (Replay image mode events)) r = ImageDue files image (ImageRuns files mode events) r
IsDue files (Some (Trace oil code mode events)) r = TextsDue files oil code (λ app. RunDue files app never mode events) r
IsDue files (Some (Show oil code)) r = TextsDue files oil code IsBuilt r
IsDue files (Some (Report oil code)) r = TextsDue files oil code IsBuilt r
IsDue files (Some (Info image)) r = ImageDue files image InfoDue r
IsDue files (Some (Upgrade image upgraded)) r = ImageDue files image Upgrades r
IsDue files (Some (Certify oil code image table)) r = TextsDue files oil code IsCertifiedBy r
IsDue files (Some (Check image table)) r = ImageDue files image (ImageIsJudged files table) r
IsDue files (Some (Record image mode events)) r = ImageDue files image (ImageRuns files mode events) r
IsDue files (Some (Watch oil code points)) r = TextsDue files oil code (WatchDue files points) r
-- the own texts of `gen` have no fault
IsDue files (Some (Gen seed tasks)) r = r ≡ Ok tt
