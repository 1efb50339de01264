-- One text tells what the least table of an application dictates, one tells its findings, and one line tells of a generated run.
use Rattle.std.proofs.Common.{◌≡◌, ℕ, List, ◌++◌, length, sym, ap, subst, ◌∙◌, Some, inl, inr, arith}
use Rattle.std.specs.Prelude.{Ok}
use Rattle.osek_standard.specs.{declared.app.App.{App}, Counts.{points, height}, TraceText.{kernel_trace}}
use Rattle.oil_system.specs.declared.system.System.{System}
use Rattle.front_end.specs.Texts.{DeclaresSystem, GivesApp}
use Rattle.front_end.proofs.OneAnswer.{one_oil, one_code}
use Rattle.abstract_state.specs.{declared.{table.PlainTable.{PlainTable}, edge.FlowEdge.{FlowEdge}}, Tables.{sets_of, value_count}}
use Rattle.dictated_forms.specs.Forms.{HasDictatedForms}
use Rattle.global_cfg.specs.Edges.{IsBefore}
use Rattle.flow_report.specs.{declared.finding.Finding.{Finding}, Findings.{Holds}, FindingOrder.{Rank, rank}}
use Rattle.flow_report.specs.FindingOrder.{IsBefore as IsBeforeRank}
use Rattle.trace_text.specs.EventText.{read_text}
use Rattle.flow_text.specs.{declared.gen_line.AnalysisCounts.{AnalysisCounts}, FlowLines.{counts_line}, GeneratedLine.{gen_line, text_size}}
use Rattle.flow_text.specs.Texts.{edges_text}
use Rattle.flow_report.specs.FindingLines.{report_text}
use Rattle.commands.specs.{Generating.{AreLeastCounts, TellsRun}, OneText.{OneTextIsOf, OneTextIsShown, OneReportIsPrinted, OneLineIsGenerated}, Reporting.{AreLeastFindings, TellsFindings}, Showing.{AreEdges, TellsLeast}}
use Rattle.commands.proofs.{InOrder.{one_in_order}, OneTable.{one_table}, SameForms.{same_texts, same_counts, same_forms}}

never_both : (x y : FlowEdge) → IsBefore x y → IsBefore y x → ⊥
never_both x y (inl h) (inl k) = omega (arith, h, k)
never_both x y (inl h) (inr k) = omega (arith, h, k.0)
never_both x y (inr h) (inl k) = omega (arith, h.0, k)
never_both x y (inr h) (inr k) = omega (arith, h.1, k.1)

one_list_of_edges : (app : App) (table : PlainTable) (xs ys : List FlowEdge) → AreEdges app table xs → AreEdges app table ys → xs ≡ ys
one_list_of_edges app table xs ys a b =
    one_in_order IsBefore never_both xs ys a.ascending b.ascending
    (λ e h. (b.exact e.from e.to).1 ((a.exact e.from e.to).0 h))
    (λ e h. (a.exact e.from e.to).1 ((b.exact e.from e.to).0 h))

one_told : (app : App) (text other : List ℕ) → TellsLeast app text → TellsLeast app other → text ≡ other
one_told app text other x y =
    let tables = one_table app x.is.table y.is.table x.is.least y.is.least in
    let forms = same_forms app (sets_of y.is.table) x.dictated.image y.dictated.image x.is.is y.is.is (subst (λ (t : PlainTable). HasDictatedForms (sets_of t) x.dictated.image) tables x.is.forms) y.is.forms in
    let sites = same_texts app x.dictated.image.sites y.dictated.image.sites forms in
    let edges = one_list_of_edges app y.is.table x.dictated.edges y.dictated.edges (subst (λ (t : PlainTable). AreEdges app t x.dictated.edges) tables x.is.edges) y.is.edges in
    let values : x.dictated.values ≡ y.dictated.values = x.is.values ∙ ap value_count tables ∙ sym y.is.values in
    x.told ∙ (λ i. sites i ++ edges_text app (edges i) ++ counts_line app (values i) (length (edges i))) ∙ sym y.told

one_counted : (app : App) (n m : AnalysisCounts) → AreLeastCounts app n → AreLeastCounts app m → n ≡ m
one_counted app n m x y =
    let tables = one_table app x.table y.table x.least y.least in
    let forms = same_forms app (sets_of y.table) x.image y.image x.is y.is (subst (λ (t : PlainTable). HasDictatedForms (sets_of t) x.image) tables x.forms) y.forms in
    let apps : x.image.app ≡ y.image.app = x.is ∙ sym y.is in
    let counts = same_counts x.image.sites y.image.sites forms in
    x.counted ∙ (λ i. record { points = points (apps i); height = height (apps i); values = value_count (tables i); forms = counts i }) ∙ sym y.counted

one_run : (app : App) (text line other : List ℕ) → TellsRun app text line → TellsRun app text other → line ≡ other
one_run app text line other x y =
    let counts = one_counted app x.counts y.counts x.least y.least in
    let modes : x.run.mode ≡ y.run.mode = (let both : Some x.run.mode ≡ Some y.run.mode = sym x.run.named ∙ y.run.named in cc) in
    let traces : x.trace ≡ y.trace = x.run.traced ∙ ap (λ m. kernel_trace app m (read_text app text).events) modes ∙ sym y.run.traced in
    x.told ∙ (λ i. gen_line (counts i) (text_size (traces i))) ∙ sym y.told

-- two texts give one application
one_app : (oil code : List ℕ) (s t : System) (a b : App) → DeclaresSystem oil s → DeclaresSystem oil t → GivesApp s code a → GivesApp t code b → a ≡ b
one_app oil code s t a b one other x y =
    let systems : s ≡ t = (let both = one_oil oil (Ok s) (Ok t) one other in cc) in
    let both = one_code t code (Ok a) (Ok b) (subst (λ (s : System). GivesApp s code a) systems x) y in
    cc

-- where one text tells of an application, one tells of two texts
one_text : (Tells : App → List ℕ → Type 0) → ((app : App) (text other : List ℕ) → Tells app text → Tells app other → text ≡ other) → OneTextIsOf Tells
one_text Tells one oil code text other x y =
    let apps = one_app oil code x.system y.system x.app y.app x.declares y.declares x.gives y.gives in
    one y.app text other (subst (λ (a : App). Tells a text) apps x.tells) y.tells

pub one_shown : OneTextIsShown
one_shown = one_text TellsLeast one_told

-- ---- findings

never_each : (r s : Rank) → IsBeforeRank r s → IsBeforeRank s r → ⊥
never_each r s (inl h) (inl k) = omega (arith, h, k)
never_each r s (inl h) (inr k) = omega (arith, h, k.0)
never_each r s (inr h) (inl k) = omega (arith, h.0, k)
never_each r s (inr (e, inl h)) (inr (o, inl k)) = omega (arith, h, k)
never_each r s (inr (e, inl h)) (inr (o, inr k)) = omega (arith, h, k.0)
never_each r s (inr (e, inr h)) (inr (o, inl k)) = omega (arith, h.0, k)
never_each r s (inr (e, inr h)) (inr (o, inr k)) = omega (arith, h.1, k.1)

one_list_of_findings : (app : App) (xs ys : List Finding) → AreLeastFindings app xs → AreLeastFindings app ys → xs ≡ ys
one_list_of_findings app xs ys a b =
    let tables : a.table ≡ b.table = one_table app a.table b.table a.least b.least in
    one_in_order (λ (f g : Finding). IsBeforeRank (rank f) (rank g)) (λ f g h k. never_each (rank f) (rank g) h k) xs ys a.ascending b.ascending
    (λ f h. (b.exact f).1 (subst (λ (t : PlainTable). Holds app (sets_of t) f) tables ((a.exact f).0 h)))
    (λ f h. (a.exact f).1 (subst (λ (t : PlainTable). Holds app (sets_of t) f) (sym tables) ((b.exact f).0 h)))

one_reported : (app : App) (text other : List ℕ) → TellsFindings app text → TellsFindings app other → text ≡ other
one_reported app text other x y = x.told ∙ ap (report_text app) (one_list_of_findings app x.findings y.findings x.are y.are) ∙ sym y.told

pub one_report : OneReportIsPrinted
one_report = one_text TellsFindings one_reported

pub one_generated : OneLineIsGenerated
one_generated seed tasks line other (oil, oil_holds, (s, declares, (code, code_holds, (a, gives, (text, text_holds, x))))) (oil_too, oil_holds_too, (t, declares_too, (code_too, code_holds_too, (b, gives_too, (text_too, text_holds_too, y))))) =
    let oils : oil ≡ oil_too = (let both : Some oil ≡ Some oil_too = sym oil_holds ∙ oil_holds_too in cc) in
    let codes : code ≡ code_too = (let both : Some code ≡ Some code_too = sym code_holds ∙ code_holds_too in cc) in
    let texts : text ≡ text_too = (let both : Some text ≡ Some text_too = sym text_holds ∙ text_holds_too in cc) in
    let apps = one_app oil_too code_too s t a b (subst (λ (o : List ℕ). DeclaresSystem o s) oils declares) declares_too (subst (λ (c : List ℕ). GivesApp s c a) codes gives) gives_too in
    one_run b text_too line other (subst (λ (e : List ℕ). TellsRun b e line) texts (subst (λ (a : App). TellsRun a text line) apps x)) y
