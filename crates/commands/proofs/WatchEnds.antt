-- From what was seen and printed of a record to the answers of `watch`.
use Rattle.std.proofs.Common.{◌≡◌, ℕ, List, Option, Err, sym, subst, inl, inr}
use Rattle.std.specs.{Prelude.{IfErr}, declared.result.Result.{Result}}
use Rattle.osek_standard.specs.declared.app.App.{App}
use Rattle.abstract_state.specs.Tables.{sets_of}
use Rattle.flow_watch.specs.{declared.alarm.Alarm.{Alarm}, Watches.{WatchState}}
use Rattle.command_runs.specs.{Inputs.{OfFile}, Outside.{Outside}, Playing.{PlayAnswers}, declared.stop.Stop.{Stop}}
use Rattle.command_runs.specs.declared.stop.Input.TheVariants as input
use Rattle.command_runs.specs.declared.stop.Stop.TheVariants as stop
use Rattle.command_runs.proofs.InputFiles.{of_map}
use Rattle.commands.specs.{Compiling.{OfApp}, Watching.{IsWatched, RecordStops, Watches, WatchAnswers, no_record, watches}}
use Rattle.commands.specs.WatchedLines.{AnswersRecord, AnswersWatch, IsLeastWatch, end_of_watch}
use Rattle.commands.proofs.{Compiles.{over_app}, WatchedRecords.{watched_whole}}

module _ (before after : Outside) (points : List ℕ) (app : App) where
  -- what was printed of a record that was seen, or nothing of one that stopped
  pub beside_record : (w v : WatchState) (end : Result (Option Alarm) Stop) (r : Result (Unit {0}) Stop) → IsLeastWatch app w → AnswersRecord before.shelf after.shelf points w v end →
      PlayAnswers before.out after.out (end_of_watch v end) r → IfErr end (λ s. (r ≡ Err s) × (after.out ≡ before.out)) → AnswersWatch before after points app r
  beside_record w v end r least (inl unread) prints stopped =
      let at = subst (λ (e : Result (Option Alarm) Stop). IfErr e (λ s. (r ≡ Err s) × (after.out ≡ before.out))) unread.0 stopped in
      inl (stop.Unread input.Record, at.0, unread.1, at.1)
  beside_record w v end r least (inr seen) prints stopped =
      inr (of_map before.shelf.files points _ _
      (λ text h. record {
        within = h.0;
        table = least.table;
        least = least.least;
        play = end_of_watch v end;
        watched = subst (IsWatched app (sets_of least.table) text) h.1 (watched_whole app (sets_of least.table) w text least.watch h.0);
        prints = prints;
      }) seen)

  -- the same of the application of two texts
  pub of_texts : (oil code : List ℕ) (r : Result (Unit {0}) Stop) → OfApp before.shelf.files oil code (λ a. a ≡ app) → AnswersWatch before after points app r → WatchAnswers before after oil code points r
  of_texts oil code r given (inl (s, is, stops, same)) =
      subst (WatchAnswers before after oil code points) (sym is)
      (no_record s (over_app before.shelf.files oil code (λ a. RecordStops before.shelf after.shelf points s) app stops given) same)
  of_texts oil code r given (inr h) =
      watches r (over_app before.shelf.files oil code (λ a. OfFile before.shelf.files points (λ text. Watches before.out after.out a text r)) app h given)
