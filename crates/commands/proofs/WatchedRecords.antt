-- What a watch makes of the lines of a record is told by the first alarm of their points, or by the first faulty line.
use Rattle.std.proofs.Common.{◌≡◌, ℕ, ◌+◌, ◌≤◌, Bool, true, false, List, [], ◌∷◌, length, Option, Some, None, Ok, Err, nat_lt, refl, sym, ◌∙◌, ap, subst, arith}
use Rattle.std.specs.declared.result.Result.{Result}
use Rattle.std.proofs.lemmas.Bool.Decides.{nat_tests}
use Rattle.osek_values.specs.declared.limits.TheConstants.{MAX_RECORD}
use Rattle.osek_standard.specs.declared.{app.App.{App}, point.Point.{Point}}
use Rattle.abstract_state.specs.Tables.{Sets}
use Rattle.trace_text.specs.{declared.fault.PointFault.{PointFault}, EventText.{numbered_lines}, PointWords.{read_point_line}}
use Rattle.trace_text.specs.RecordText.{RecordReading, with_point as with_line, read_points, read_record}
use Rattle.flow_watch.specs.{declared.alarm.Alarm.{Alarm}, Watches.{WatchState, IsWatchOf, may_come, with_point, seen_after, seen_by, all_seen}}
use Rattle.flow_watch.proofs.FirstAlarms.{finds, stays}
use Rattle.command_runs.specs.Playing.{Played, played}
use Rattle.command_runs.specs.declared.stop.Stop.TheVariants as stop
use Rattle.commands.specs.{Watching.{IsWatched, alarm_line, quiet_end, watched_by}, WatchedLines.{watched, watched_line, watched_on}}

-- how a watch that saw n points ends at the points that are ahead
abbrev ended_by : App → ℕ → RecordReading → Option Alarm → Played
ended_by app n r (Some a) = played (alarm_line app a) (Err stop.Alarmed)
ended_by app n r None = quiet_end (n + length r.points) r.fault

from_none : (app : App) (r : RecordReading) (x : Option Alarm) → ended_by app 0 r x ≡ watched_by app r x
from_none app r (Some a) = refl
from_none app r None = let same : 0 + length r.points ≡ length r.points = omega arith in ap (λ (n : ℕ). quiet_end n r.fault) same

-- one point more
point_more : (app : App) (n : ℕ) (p : Point) (r : RecordReading) (x : Option Alarm) → ended_by app (n + 1) r x ≡ ended_by app n (record { points = p ∷ r.points; fault = r.fault }) x
point_more app n p r (Some a) = refl
point_more app n p r None = let same : n + 1 + length r.points ≡ n + length (p ∷ r.points) = omega arith in ap (λ (m : ℕ). quiet_end m r.fault) same

module _ (w : WatchState) (none : w.alarm ≡ None) where
  nothing_ahead : (r : RecordReading) → r.points ≡ [] → quiet_end w.seen r.fault ≡ ended_by w.app w.seen r (all_seen w r.points).alarm
  nothing_ahead r empty =
      let same : w.seen ≡ w.seen + length r.points = omega (arith, ap (λ (ps : List Point). length ps) empty) in
      let still : (all_seen w r.points).alarm ≡ None = ap (λ (ps : List Point). (all_seen w ps).alarm) empty ∙ none in
      ap (λ (n : ℕ). quiet_end n r.fault) same ∙ ap (ended_by w.app w.seen r) (sym still)

  -- a point that may come, or not
  point_seen : (p : Point) (rest : RecordReading) (more : WatchState → Played) →
      ((v : WatchState) → v.alarm ≡ None → v.app ≡ w.app → more v ≡ ended_by w.app v.seen rest (all_seen v rest.points).alarm) → (b : Bool) → may_come w w.last p ≡ b →
      watched_on (seen_by w p) more (seen_by w p).alarm ≡ ended_by w.app w.seen (record { points = p ∷ rest.points; fault = rest.fault }) (all_seen (seen_by w p) rest.points).alarm
  point_seen p rest more ahead true may =
      let u = with_point w p true in
      let same : seen_by w p ≡ u = ap (seen_after w p) none ∙ ap (with_point w p) may in
      subst (λ (v : WatchState). watched_on v more v.alarm ≡ ended_by w.app w.seen (record { points = p ∷ rest.points; fault = rest.fault }) (all_seen v rest.points).alarm) (sym same)
      (ap (watched_on u more) none ∙ ahead u none refl ∙ point_more w.app w.seen p rest (all_seen u rest.points).alarm)
  point_seen p rest more ahead false may =
      let u = with_point w p false in
      let alarm : Alarm = record { place = w.seen; before = w.last; point = p } in
      let same : seen_by w p ≡ u = ap (seen_after w p) none ∙ ap (with_point w p) may in
      let still : (all_seen u rest.points).alarm ≡ Some alarm = ap (λ (v : WatchState). v.alarm) (stays u alarm rest.points refl) in
      subst (λ (v : WatchState). watched_on v more v.alarm ≡ ended_by w.app w.seen (record { points = p ∷ rest.points; fault = rest.fault }) (all_seen v rest.points).alarm) (sym same)
      (ap (ended_by w.app w.seen (record { points = p ∷ rest.points; fault = rest.fault })) (sym still))

  line_seen : (n : ℕ) (r : Result (Option Point) PointFault) (rest : RecordReading) (more : WatchState → Played) →
      ((v : WatchState) → v.alarm ≡ None → v.app ≡ w.app → more v ≡ ended_by w.app v.seen rest (all_seen v rest.points).alarm) →
      watched_line w n more r ≡ ended_by w.app w.seen (with_line n r rest) (all_seen w (with_line n r rest).points).alarm
  line_seen n (Ok None) rest more ahead = ahead w none refl
  line_seen n (Ok (Some p)) rest more ahead = point_seen p rest more ahead (may_come w w.last p) refl
  line_seen n (Err rule) rest more ahead = nothing_ahead (record { points = []; fault = Some (record { line = n; rule = rule }) }) refl

lines_seen : (lines : List (ℕ × List ℕ)) (w : WatchState) → w.alarm ≡ None → watched lines w ≡ ended_by w.app w.seen (read_points w.app lines) (all_seen w (read_points w.app lines).points).alarm
lines_seen [] w none = nothing_ahead w none (record { points = []; fault = None }) refl
lines_seen (line ∷ more) w none =
    line_seen w none line.0 (read_point_line w.app line.1) (read_points w.app more) (watched more)
    (λ v quiet same. subst (λ (a : App). watched more v ≡ ended_by a v.seen (read_points a more) (all_seen v (read_points a more).points).alarm) same (lines_seen more v quiet))

record_within : (app : App) (text : List ℕ) → length text ≤ MAX_RECORD → read_record app text ≡ read_points app (numbered_lines text)
record_within app text h = let low : nat_lt MAX_RECORD (length text) ≡ false = grind (arith, nat_tests) in rw low

-- a watch that saw nothing yet tells of the whole record
pub watched_whole : (app : App) (table : Sets) (w : WatchState) (text : List ℕ) → IsWatchOf app table w → length text ≤ MAX_RECORD → IsWatched app table text (watched (numbered_lines text) w)
watched_whole app table w text h within =
    let lines = numbered_lines text in
    let read = read_record app text in
    let seen : watched lines w ≡ ended_by app 0 (read_points app lines) (all_seen w (read_points app lines).points).alarm =
    subst (λ (n : ℕ). watched lines w ≡ ended_by app n (read_points app lines) (all_seen w (read_points app lines).points).alarm) h.seen
    (subst (λ (a : App). watched lines w ≡ ended_by a w.seen (read_points a lines) (all_seen w (read_points a lines).points).alarm) h.of (lines_seen lines w h.alarm)) in
    record {
      alarm = (all_seen w read.points).alarm;
      first = finds app table w read.points h;
      is = seen ∙ ap (λ (r : RecordReading). ended_by app 0 r (all_seen w r.points).alarm) (sym (record_within app text within)) ∙ from_none app read (all_seen w read.points).alarm;
    }
