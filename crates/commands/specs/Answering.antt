-- What the top call does: a command's answer, and how it is told.
use Rattle.std.specs.Prelude.{◌≡◌, ◌⊎◌, ℕ, List, Option, Some, None, Result, Err}
use Rattle.osek_io.specs.{Counts.{Rose}, Files.{Files}, Sunk.{Sunk, Writes}}
use Rattle.command_runs.specs.declared.stop.Stop.{Stop}
use Rattle.command_runs.specs.declared.stop.Stop.TheVariants as stop
use Rattle.command_runs.specs.declared.showing.Showing.TheVariants as showing
use Rattle.commands.specs.{Building.{BuildAnswers}, Certifying.{CertifyAnswers}, Checking.{CheckAnswers}, Due.{IsCalm, IsDue}, Generating.{GenAnswers}, Informing.{InfoAnswers}}
use Rattle.command_runs.specs.{Outside.{Outside, SameFiles}, Replaying.{ReplayAnswers}}
use Rattle.commands.specs.{Reporting.{ReportAnswers}, Showing.{ShowAnswers}, Statuses.{status_of, text_due}}
use Rattle.command_runs.specs.{Telling.{Breaks}, Upgrading.{UpgradeAnswers}}
use Rattle.commands.specs.{Tracing.{TraceAnswers}, Watching.{WatchAnswers}, Words.{Command, Build, Replay, Trace, Show, Report, Info, Gen, Upgrade, Certify, Check, Record, Watch}}

-- err gained the text, no write on it failed, and the status is as given; or one failed: it gained a prefix, and the status is 6
abbrev pub Tells : (err err_after : Sunk) → (text : List ℕ) → (status answered : ℕ) → Type 0
Tells err err_after text status answered =
    ((answered ≡ status) × Writes err err_after text)
    ⊎ ((answered ≡ 6) × Breaks err err_after text)

-- Words of no stated form leave all as it was, also where memory ran out as they were read; `build`, `upgrade` and `certify` print nothing;
-- the others write no file.
abbrev pub CommandAnswers : (before after : Outside) → Option Command → Result (Unit {0}) Stop → Type 0
CommandAnswers before after None r = ((r ≡ Err stop.Usage) ⊎ (r ≡ Err stop.Memory)) × (after ≡ before)
CommandAnswers before after (Some (Build oil code image)) r = BuildAnswers before after oil code image r × (after.out ≡ before.out)
CommandAnswers before after (Some (Replay image mode events)) r = ReplayAnswers showing.Trace before after image mode events r × SameFiles before.shelf after.shelf
CommandAnswers before after (Some (Trace oil code mode events)) r = TraceAnswers before after oil code mode events r × SameFiles before.shelf after.shelf
CommandAnswers before after (Some (Show oil code)) r = ShowAnswers before after oil code r × SameFiles before.shelf after.shelf
CommandAnswers before after (Some (Report oil code)) r = ReportAnswers before after oil code r × SameFiles before.shelf after.shelf
CommandAnswers before after (Some (Info image)) r = InfoAnswers before after image r × SameFiles before.shelf after.shelf
CommandAnswers before after (Some (Gen seed tasks)) r = GenAnswers before after seed tasks r × (after.shelf ≡ before.shelf)
CommandAnswers before after (Some (Upgrade image upgraded)) r = UpgradeAnswers before after image upgraded r × (after.out ≡ before.out)
CommandAnswers before after (Some (Certify oil code image table)) r = CertifyAnswers before after oil code image table r × (after.out ≡ before.out)
CommandAnswers before after (Some (Check image table)) r = CheckAnswers before after image table r × SameFiles before.shelf after.shelf
CommandAnswers before after (Some (Record image mode events)) r = ReplayAnswers showing.Points before after image mode events r × SameFiles before.shelf after.shelf
CommandAnswers before after (Some (Watch oil code points)) r = WatchAnswers before after oil code points r × SameFiles before.shelf after.shelf

-- The command of the words answers r, of which err has the text and the call the status.
pub record Does (command : Option Command) (answers : Result (Unit {0}) Stop → Type 0) (tells : List ℕ → ℕ → Type 0) : Type 0 where
  pub answer : Result (Unit {0}) Stop
  pub does : answers answer
  pub told : tells (text_due command answer) (status_of answer)

-- What the top call does and tells: the command's answer, of which err has the text, and the status.
abbrev pub Carries : (before after : Outside) (err err_after : Sunk) → Option Command → (status : ℕ) → Type 0
Carries before after err err_after command status = Does command (CommandAnswers before after command) (λ text due. Tells err err_after text due status)

-- Over files that are told, where no count of faults rose, the status is that of the answer which is due, or memory ran out.
abbrev pub IsDueStatus : (before after : Outside) (err err_after : Sunk) → Option Command → (status : ℕ) → Type 0
IsDueStatus before after err err_after command status =
    (files : Files) (due : Result (Unit {0}) Stop) → before.shelf.files ≡ Some files → IsCalm before after → (Rose err.faults err_after.faults → ⊥) → IsDue files command due
    → (status ≡ status_of due) ⊎ (status ≡ 7)
