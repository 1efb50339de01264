-- What `show` and `report` print is one text for two texts, and what `gen` prints one line for two numbers.
use Rattle.std.specs.Prelude.{◌≡◌, ℕ, List, Some}
use Rattle.osek_standard.specs.declared.app.App.{App}
use Rattle.oil_system.specs.declared.system.System.{System}
use Rattle.front_end.specs.Texts.{DeclaresSystem, GivesApp}
use Rattle.abstract_state.specs.declared.table.PlainTable.{PlainTable}
use Rattle.commands.specs.{Fitting.{IsLeastTable}, GeneratedFiles.{generated_files}, Generating.{OfOwn, TellsRun}, Reporting.{TellsFindings}, Showing.{TellsLeast}}

-- The least table of an application is written in one way, with one number of values.
abbrev pub OneTableIsWritten : Type 0
OneTableIsWritten = (app : App) (table other : PlainTable) → IsLeastTable app table → IsLeastTable app other → table ≡ other

-- the text tells of the application of the two texts
pub record IsTextOf (Tells : App → List ℕ → Type 0) (oil code text : List ℕ) : Type 0 where
  pub system : System
  pub declares : DeclaresSystem oil system
  pub app : App
  pub gives : GivesApp system code app
  pub tells : Tells app text

-- What is told is a function of the two texts.
abbrev pub OneTextIsOf : (App → List ℕ → Type 0) → Type 0
OneTextIsOf Tells = (oil code text other : List ℕ) → IsTextOf Tells oil code text → IsTextOf Tells oil code other → text ≡ other

-- What `show` prints is a function of its two texts,
abbrev pub OneTextIsShown : Type 0
OneTextIsShown = OneTextIsOf TellsLeast

-- and so is what `report` prints.
abbrev pub OneReportIsPrinted : Type 0
OneReportIsPrinted = OneTextIsOf TellsFindings

-- the line tells of the run of the system that is generated from these numbers
abbrev pub IsGeneratedLine : (seed tasks : ℕ) → (line : List ℕ) → Type 0
IsGeneratedLine seed tasks line = OfOwn (Some (generated_files seed tasks)) (λ app text. TellsRun app text line)

-- What `gen` prints is a function of its two numbers.
abbrev pub OneLineIsGenerated : Type 0
OneLineIsGenerated = (seed tasks : ℕ) (line other : List ℕ) → IsGeneratedLine seed tasks line → IsGeneratedLine seed tasks other → line ≡ other
