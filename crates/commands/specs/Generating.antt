-- The answers of `gen`, each with its cause and what it leaves.
use Rattle.std.specs.Prelude.{◌≡◌, ℕ, List, Option, Some, None, Result, Err}
use Rattle.osek_values.specs.declared.numbers.ModeNo.{ModeNo}
use Rattle.osek_standard.specs.{declared.app.App.{App}, TraceText.{kernel_trace}}
use Rattle.image_model.specs.declared.image.Image.{Image}
use Rattle.abstract_state.specs.{declared.table.PlainTable.{PlainTable}, Tables.{sets_of, value_count}}
use Rattle.dictated_forms.specs.Forms.{HasDictatedForms}
use Rattle.trace_text.specs.EventText.{read_text}
use Rattle.osek_io.specs.Files.{Files}
use Rattle.flow_text.specs.{declared.gen_line.AnalysisCounts.{AnalysisCounts}, GeneratedLine.{analysis_counts, text_size, gen_line}}
use Rattle.commands.specs.{Compiling.{OfApp}, Fitting.{IsLeastTable}, GeneratedFiles.{oil_name, code_name, events_name, default_mode, generated_files}}
use Rattle.command_runs.specs.{Inputs.{OfFile}, Outside.{Outside}}
use Rattle.commands.specs.Printing.{PrintAnswers}
use Rattle.command_runs.specs.{Running.{mode_named}, declared.stop.Stop.{Stop}}
use Rattle.command_runs.specs.declared.stop.Stop.TheVariants as stop

-- what the least table of an application counts, and the forms that it dictates
pub record AreLeastCounts (app : App) (counts : AnalysisCounts) : Type 0 where
  pub table : PlainTable
  pub image : Image
  pub least : IsLeastTable app table
  pub is : image.app ≡ app
  pub forms : HasDictatedForms (sets_of table) image
  pub counted : counts ≡ analysis_counts image (value_count table)

-- the kernel's trace of an application under an event text, which has no fault
pub record IsDefaultTrace (app : App) (text trace : List ℕ) : Type 0 where
  pub mode : ModeNo
  pub named : mode_named app default_mode ≡ Some mode
  pub faultless : (read_text app text).fault ≡ None
  pub traced : trace ≡ kernel_trace app mode (read_text app text).events

-- the line tells of an application and its trace under an event text
pub record TellsRun (app : App) (text line : List ℕ) : Type 0 where
  pub counts : AnalysisCounts
  pub trace : List ℕ
  pub least : AreLeastCounts app counts
  pub run : IsDefaultTrace app text trace
  pub told : line ≡ gen_line counts (text_size trace)

-- of the application of the texts that are there in memory, and the text of the events, P is true
abbrev pub OfOwn : Option Files → (App → List ℕ → Type 0) → Type 0
OfOwn files P = OfApp files oil_name code_name (λ app. OfFile files events_name (P app))

-- Memory ran out, and nothing was printed; or the line of the run was printed: its own texts have no fault.
pub data GenAnswers (before after : Outside) (seed tasks : ℕ) : Result (Unit {0}) Stop → Type 0 where
  no_memory : after.out ≡ before.out → GenAnswers before after seed tasks (Err stop.Memory)
  tells : (r : Result (Unit {0}) Stop) → OfOwn (Some (generated_files seed tasks)) (λ app text. (line : List ℕ) × TellsRun app text line × PrintAnswers before after line r) → GenAnswers before after seed tasks r
