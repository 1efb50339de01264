use Rattle.std.proofs.Common.{◌≡◌, ◌∙◌, ℕ, refl, sym, ap, subst, arith}
use Rattle.std.proofs.lemmas.Bool.{eqb-true}
use Rattle.osek_values.specs.{Hooks.{hook_set}}
use Rattle.abstract_state.specs.Tables.{sets_of}
use Rattle.flow_report.specs.{FindingOrder.{rank_at}, Progress.{AreListed}}
use Rattle.flow_report.specs.declared.finding.Finding.TheVariants as finding
use Rattle.flow_report.proofs.{Listing.{listed_number, listed_kind}, NotedRows.{silent_answer, none_silent, silent_known, silent_once}}
use Rattle.flow_report.proofs.reporting.push_silent.Goals as goal

pub returns-then-has_none : goal.returns-then-has_none
returns-then-has_none c =
    let app = c.args.app.now in
    let table = sets_of c.args.table.now in
    let none : app.hooks ≡ hook_set 0 = ap hook_set (eqb-true app.hooks.0 0 (sym c.has_none.ensures ∙ c.if-has_none.true)) in
    listed_kind app table 3 0 c.args.findings.now.items (λ g h k. absurd (none_silent app table (hook_set 0) refl none g h k)) c.requires.listed

pub loop-place-preserved : goal.loop-place-preserved
loop-place-preserved c =
    let app = c.args.app.now in
    let table = sets_of c.args.table.now in
    let i = c.loop-place.place in
    let hook = c.hook_at-hook.result in
    listed_number app table 3 i c.loop-place.findings.items c.push_if.new.findings.items (finding.Silent hook) c.is_silent-holds.result c.loop-place.invariant
    (silent_answer app table hook c.in_ok-noted.noted c.is_silent-holds.result c.is_silent-holds.ensures c.hook_at-hook.ensures.hook c.in_ok-noted.ensures)
    (ap (λ (n : ℕ). rank_at 3 n 0) c.hook_at-hook.ensures.place) (silent_once app table hook i c.hook_at-hook.ensures.hook c.hook_at-hook.ensures.place) c.in_ok-push_if.ensures

pub returns : goal.returns
returns c =
    let app = c.args.app.now in
    let table = sets_of c.args.table.now in
    let all : c.loop-place.place ≡ 5 = omega arith in
    listed_kind app table 3 5 c.loop-place.findings.items (silent_known app table) (subst (λ (k : ℕ). AreListed app table (rank_at 3 k 0) c.loop-place.findings.items) all c.loop-place.invariant)
