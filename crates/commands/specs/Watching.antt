-- The answers of `watch`, each with its cause and what it leaves.
use Rattle.std.specs.{Prelude.{◌≡◌, ◌≤◌, ℕ, List, [], ◌++◌, length, Option, Some, None, Result, Ok, Err, codes}, Fmt.{decimal}}
use Rattle.osek_values.specs.declared.limits.TheConstants.{MAX_RECORD}
use Rattle.osek_standard.specs.declared.app.App.{App}
use Rattle.abstract_state.specs.{declared.table.PlainTable.{PlainTable}, Tables.{Sets, sets_of}}
use Rattle.trace_text.specs.{declared.fault.FaultyPoint.{FaultyPoint}, PointTexts.{point_text}, RecordText.{RecordReading, read_record}}
use Rattle.flow_watch.specs.{declared.alarm.Alarm.{Alarm}, Records.{IsAlarmOf}}
use Rattle.osek_io.specs.Sunk.{Sunk}
use Rattle.command_runs.specs.{Inputs.{OfFile, NotLoaded}, Outside.{Told, Outside}, Playing.{Played, played, PlayAnswers}}
use Rattle.command_runs.specs.declared.stop.Input.TheVariants as input
use Rattle.command_runs.specs.declared.stop.Stop.{Stop}
use Rattle.command_runs.specs.declared.stop.Stop.TheVariants as stop
use Rattle.commands.specs.{Compiling.{OfApp, CompileStops}, Fitting.{IsLeastTable}}

-- the line of an alarm, and that of so many points without one
abbrev pub alarm_line : App → Alarm → List ℕ
alarm_line app a = (codes "alarm " ++ decimal a.place ++ codes " ") ++ (point_text app a.point ++ codes "\n")

abbrev pub quiet_line : ℕ → List ℕ
quiet_line n = codes "quiet " ++ decimal n ++ codes "\n"

-- without an alarm a faulty line ends the watch with nothing printed, or the record its line
abbrev pub quiet_end : ℕ → Option FaultyPoint → Played
quiet_end n (Some f) = played [] (Err (stop.Record f))
quiet_end n None = played (quiet_line n) (Ok tt)

-- what is printed of a record and how the watch ends, by the first alarm of the points before a faulty line
abbrev pub watched_by : App → RecordReading → Option Alarm → Played
watched_by app r (Some a) = played (alarm_line app a) (Err stop.Alarmed)
watched_by app r None = quiet_end (length r.points) r.fault

-- what is printed of the text of a record over a table, and how the watch ends
pub record IsWatched (app : App) (table : Sets) (text : List ℕ) (p : Played) : Type 0 where
  pub alarm : Option Alarm
  pub first : IsAlarmOf app table (read_record app text).points alarm
  pub is : p ≡ watched_by app (read_record app text) alarm

-- the record was watched over the least table, and what comes of it was printed
pub record Watches (out out_after : Sunk) (app : App) (text : List ℕ) (r : Result (Unit {0}) Stop) : Type 0 where
  pub within : length text ≤ MAX_RECORD
  pub table : PlainTable
  pub least : IsLeastTable app table
  pub play : Played
  pub watched : IsWatched app (sets_of table) text play
  pub prints : PlayAnswers out out_after play r

-- why a record isn't read, to its end or to an alarm or a faulty line
abbrev pub RecordStops : (before after : Told) → (points : List ℕ) → Stop → Type 0
RecordStops before after points = NotLoaded before after input.Record points

-- `watch` stops at the texts, or the record is over its limit or a read of it fails, and nothing is printed; or it tells of the record.
pub data WatchAnswers (before after : Outside) (oil code points : List ℕ) : Result (Unit {0}) Stop → Type 0 where
  stops : (s : Stop) → CompileStops before.shelf after.shelf oil code s → after.out ≡ before.out → WatchAnswers before after oil code points (Err s)
  no_record : (s : Stop) → OfApp before.shelf.files oil code (λ app. RecordStops before.shelf after.shelf points s) → after.out ≡ before.out → WatchAnswers before after oil code points (Err s)
  watches : (r : Result (Unit {0}) Stop) → OfApp before.shelf.files oil code (λ app. OfFile before.shelf.files points (λ text. Watches before.out after.out app text r)) → WatchAnswers before after oil code points r
