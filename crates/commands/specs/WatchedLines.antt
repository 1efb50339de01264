-- What a watch makes of the lines of a record that are ahead.
use Rattle.std.specs.{Prelude.{◌≡◌, ◌⊎◌, ℕ, ◌≤◌, List, [], ◌∷◌, ◌++◌, length, Option, Some, None, Result, Ok, Err}, List.{enumerate_from}}
use Rattle.osek_values.specs.declared.limits.TheConstants.{MAX_RECORD}
use Rattle.osek_standard.specs.declared.{app.App.{App}, point.Point.{Point}}
use Rattle.abstract_state.specs.{declared.table.PlainTable.{PlainTable}, Tables.{sets_of}}
use Rattle.trace_text.specs.{declared.fault.PointFault.{PointFault}, EventText.{text_lines, numbered_lines}, Feeds.{FeedState}, PointWords.{read_point_line}}
use Rattle.flow_watch.specs.{declared.alarm.Alarm.{Alarm}, Watches.{WatchState, IsWatchOf, seen_by}}
use Rattle.command_runs.specs.{Inputs.{OfFile}, Outside.{Told, Outside}, Playing.{Played, played, MayFollow}, declared.stop.Stop.{Stop}}
use Rattle.command_runs.specs.declared.stop.Input.TheVariants as input
use Rattle.command_runs.specs.declared.stop.Stop.TheVariants as stop
use Rattle.commands.specs.{Fitting.{IsLeastTable}, Watching.{alarm_line, quiet_line, RecordStops, Watches}}

-- How a watch ends, and what is printed then: at an alarm, at the end of the record, or where it stops.
abbrev pub end_of_watch : WatchState → Result (Option Alarm) Stop → Played
end_of_watch w (Ok (Some a)) = played (alarm_line w.app a) (Err stop.Alarmed)
end_of_watch w (Ok None) = played (quiet_line w.seen) (Ok tt)
end_of_watch w (Err s) = played [] (Err s)

-- a watch that saw a point goes on, or ends at its alarm
abbrev pub watched_on : WatchState → (WatchState → Played) → Option Alarm → Played
watched_on w more None = more w
watched_on w more (Some a) = end_of_watch w (Ok (Some a))

-- line n: no point, a point, or a fault
abbrev pub watched_line : WatchState → ℕ → (WatchState → Played) → Result (Option Point) PointFault → Played
watched_line w n more (Ok None) = more w
watched_line w n more (Ok (Some p)) = watched_on (seen_by w p) more (seen_by w p).alarm
watched_line w n more (Err rule) = end_of_watch w (Err (stop.Record (record { line = n; rule = rule })))

abbrev pub watched : List (ℕ × List ℕ) → WatchState → Played
watched [] w = end_of_watch w (Ok None)
watched (line ∷ more) w = watched_line w line.0 (watched more) (read_point_line w.app line.1)

-- what a watch makes of the lines that a feed has ahead, where this rest of the record comes behind them: line k is the next one
abbrev pub watched_fed : FeedState → (rest : List ℕ) → ℕ → WatchState → Played
watched_fed f rest k w = watched (enumerate_from k (text_lines (f.ahead ++ rest))) w

-- What a watch answers to a line and leaves, whatever comes behind it: it goes on, or it ends so.
abbrev pub AnswersPoint : (line : (WatchState → Played) → Played) → WatchState → Result (Option Alarm) Stop → Type 0
AnswersPoint line w (Ok None) = (more : WatchState → Played) → line more ≡ more w
AnswersPoint line w other = (more : WatchState → Played) → line more ≡ end_of_watch w other

-- The same of the lines that are ahead in a feed, line k being the next: it goes on at line l with what is ahead then.
abbrev pub AnswersFed : (f g : FeedState) → (k l : ℕ) → (w v : WatchState) → Result (Option Alarm) Stop → Type 0
AnswersFed f g k l w v (Ok None) = (rest : List ℕ) → MayFollow f rest → watched_fed f rest k w ≡ watched_fed g rest l v
AnswersFed f g k l w v other = (rest : List ℕ) → MayFollow f rest → watched_fed f rest k w ≡ end_of_watch v other

-- What a watch answers to a record as it is read, and leaves: a read failed, or it ends so.
abbrev pub AnswersRecord : (before after : Told) → (points : List ℕ) → (w v : WatchState) → Result (Option Alarm) Stop → Type 0
AnswersRecord before after points w v r =
    ((r ≡ Err (stop.Unread input.Record)) × RecordStops before after points (stop.Unread input.Record))
    ⊎ OfFile before.files points (λ t. (length t ≤ MAX_RECORD) × (watched (numbered_lines t) w ≡ end_of_watch v r))

-- a watch over the least table of an application, which saw nothing yet
pub record IsLeastWatch (app : App) (w : WatchState) : Type 0 where
  pub table : PlainTable
  pub least : IsLeastTable app table
  pub watch : IsWatchOf app (sets_of table) w

-- what is left where a record is watched beside an application: it isn't read, or what comes of it is printed
abbrev pub AnswersWatch : (before after : Outside) → (points : List ℕ) → App → Result (Unit {0}) Stop → Type 0
AnswersWatch before after points app r =
    ((s : Stop) × (r ≡ Err s) × RecordStops before.shelf after.shelf points s × (after.out ≡ before.out))
    ⊎ OfFile before.shelf.files points (λ text. Watches before.out after.out app text r)
