-- the application of the texts, and what was printed of it
use Rattle.std.proofs.Common.{◌≡◌, List, ℕ, refl, inl, inr, subst, sym}
use Rattle.std.specs.declared.result.Result.{Result}
use Rattle.std.specs.Prelude.{All}
use Rattle.std.proofs.lemmas.List.Elements.{Contains-get_or}
use Rattle.osek_standard.specs.declared.app.App.{App}
use Rattle.flow_report.specs.{declared.finding.Finding.{Finding}, Findings.{IsOf}}
use Rattle.flow_report.specs.FindingLines.{report_text}
use Rattle.command_runs.specs.{Inputs.{no_memory}, Outside.{Outside, outside}, declared.stop.Stop.{Stop}}
use Rattle.commands.specs.{Compiling.{OfApp}, Printing.{PrintsWhole, PrintAnswers}, Reporting.{AreLeastFindings, TellsFindings, ReportAnswers, stops, tells}}
use Rattle.commands.proofs.Compiles.{over_app}
use Rattle.commands.proofs.reporting.report.Goals as goal

-- what was printed of an application that was compiled
reported : (before after : Outside) (oil code : List ℕ) (app : App) (findings : List Finding) (r : Result (Unit {0}) Stop) → OfApp before.shelf.files oil code (λ a. a ≡ app) → AreLeastFindings app findings →
    PrintsWhole before.out after.out (report_text app findings) r → ReportAnswers before after oil code r
reported before after oil code app findings _ given are (inl memory) = subst (ReportAnswers before after oil code) (sym memory.0) (stops _ (inl no_memory) memory.1)
reported before after oil code app findings r given are (inr printed) =
    tells r (over_app before.shelf.files oil code (λ (a : App). (text : List ℕ) × TellsFindings a text × PrintAnswers before after text r) app
    (report_text app findings, record { findings = findings; are = are; told = refl }, printed) given)

-- what is found is the application's
all_of : (app : App) (findings : List Finding) → AreLeastFindings app findings → All (IsOf app) findings
all_of app findings are k d lt = ((are.exact _).0 (Contains-get_or findings k d lt)).0

pub print_report-printed-requires : goal.print_report-printed-requires
print_report-printed-requires g c = record {
  of = subst (All (IsOf c.in-Ok.app)) (sym c.as_slice.ensures.value) (all_of c.in-Ok.app c.in-Ok-least_findings.findings.items c.in-Ok-least_findings.ensures);
}

pub returns-in-Err-clause-answer : goal.returns-in-Err-clause-answer
returns-in-Err-clause-answer g c = stops c.in-Err.stop c.in-Err.ensures.stop refl

pub returns-in_default-clause-answer : goal.returns-in_default-clause-answer
returns-in_default-clause-answer g c = stops _ (inl no_memory) refl

pub returns-clause-answer : goal.returns-clause-answer
returns-clause-answer g c =
    let before = outside g.F.Shelf g.O.Sink c.args.shelf.now c.args.out.now in
    let after = outside g.F.Shelf g.O.Sink c.compile.new.shelf c.print_report-printed.new.out in
    let app = c.in-Ok.app in
    let r = c.print_report-printed.result in
    reported before after c.args.oil.now c.args.code.now app c.in-Ok-least_findings.findings.items r c.in-Ok.ensures.app c.in-Ok-least_findings.ensures
    (subst (λ (fs : List Finding). PrintsWhole before.out after.out (report_text app fs) r) c.as_slice.ensures.value c.print_report-printed.ensures)
