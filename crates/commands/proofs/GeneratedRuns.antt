-- From a run in memory to the answers of `gen`.
use Rattle.std.proofs.Common.{◌≡◌, ◌<◌, ◌≤◌, ℕ, List, sym, subst, inl, inr, Some, Err, refl}
use Rattle.std.specs.declared.result.Result.{Result}
use Rattle.osek_values.specs.declared.limits.TheConstants.{MAX_TASKS}
use Rattle.osek_standard.specs.declared.app.App.{App}
use Rattle.flow_text.specs.{declared.gen_line.AnalysisCounts.{AnalysisCounts}, GeneratedLine.{text_size, gen_line}}
use Rattle.osek_io.specs.Files.{Files}
use Rattle.commands.specs.GeneratedFiles.{oil_name, code_name, events_name, generated_files}
use Rattle.commands.specs.Generating.{AreLeastCounts, IsDefaultTrace, TellsRun, OfOwn, GenAnswers, no_memory, tells}
use Rattle.command_runs.specs.Outside.{Outside}
use Rattle.commands.specs.Printing.{PrintAnswers}
use Rattle.command_runs.specs.declared.stop.Stop.{Stop}
use Rattle.command_runs.proofs.InputFiles.{of_map}
use Rattle.commands.proofs.{OwnRuns.{OwnStops}, OwnTexts.{no_stop_is_due}}

module _ (before after : Outside) (seed tasks : ℕ) where
  abbrev Line : Result (Unit {0}) Stop → App → List ℕ → Type 0
  Line r app text = (line : List ℕ) × TellsRun app text line × PrintAnswers before after line r

  pub own_answers : (0 < tasks) × (tasks ≤ MAX_TASKS) → after.out ≡ before.out → (s : Stop) → OwnStops (generated_files seed tasks) s → GenAnswers before after seed tasks (Err s)
  own_answers few same s (inl e) = subst (λ (x : Stop). GenAnswers before after seed tasks (Err x)) (sym e) (no_memory same)
  own_answers few same s (inr due) = absurd (no_stop_is_due seed tasks few s due)

  -- the line of a run in memory was printed
  pub own_tells : (files : Files) (counts : AnalysisCounts) (trace : List ℕ) → files ≡ generated_files seed tasks →
      OfOwn (Some files) (λ app text. AreLeastCounts app counts × IsDefaultTrace app text trace) → (r : Result (Unit {0}) Stop) → PrintAnswers before after (gen_line counts (text_size trace)) r → GenAnswers before after seed tasks r
  own_tells files counts trace e h r printed =
      tells r (subst (λ (f : Files). OfOwn (Some f) (Line r)) e
      (of_map (Some files) oil_name _ _ (λ b s. (s.0, s.1, of_map (Some files) code_name _ _ (λ t g. (g.0, g.1, of_map (Some files) events_name _ _ (line g.0) g.2)) s.2)) h))
    where
      line : (app : App) (text : List ℕ) → AreLeastCounts app counts × IsDefaultTrace app text trace → Line r app text
      line app text p = (gen_line counts (text_size trace), record { counts = counts; trace = trace; least = p.0; run = p.1; told = refl }, printed)
