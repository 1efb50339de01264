-- The answers of `report`, each with its cause and what it leaves.
use Rattle.std.specs.Prelude.{◌≡◌, ◌↔◌, ℕ, List, Contains, Result, Err}
use Rattle.osek_standard.specs.declared.app.App.{App}
use Rattle.abstract_state.specs.{declared.table.PlainTable.{PlainTable}, Tables.{sets_of}}
use Rattle.flow_report.specs.{declared.finding.Finding.{Finding}, Findings.{Holds}, FindingOrder.{AreAscending}}
use Rattle.flow_report.specs.FindingLines.{report_text}
use Rattle.command_runs.specs.{Outside.{Outside}, declared.stop.Stop.{Stop}}
use Rattle.commands.specs.{Compiling.{OfApp, CompileStops}, Fitting.{IsLeastTable}, Printing.{PrintAnswers}}

-- these are the findings of the least table of an application, in order, none twice
pub record AreLeastFindings (app : App) (findings : List Finding) : Type 0 where
  pub table : PlainTable
  pub least : IsLeastTable app table
  pub exact : (f : Finding) → Contains findings f ↔ Holds app (sets_of table) f
  pub ascending : AreAscending findings

-- the text tells them
pub record TellsFindings (app : App) (text : List ℕ) : Type 0 where
  pub findings : List Finding
  pub are : AreLeastFindings app findings
  pub told : text ≡ report_text app findings

-- `report` stops at the texts and prints nothing, or prints the findings of the least table of their application.
pub data ReportAnswers (before after : Outside) (oil code : List ℕ) : Result (Unit {0}) Stop → Type 0 where
  stops : (s : Stop) → CompileStops before.shelf after.shelf oil code s → after.out ≡ before.out → ReportAnswers before after oil code (Err s)
  tells : (r : Result (Unit {0}) Stop) → OfApp before.shelf.files oil code (λ app. (text : List ℕ) × TellsFindings app text × PrintAnswers before after text r) → ReportAnswers before after oil code r
