use Rattle.std.proofs.Common.{◌≡◌, ℕ, length, refl, ap, subst, arith}
use Rattle.osek_values.specs.Numbers.{mode_no}
use Rattle.osek_standard.specs.Dispatch.{Stepped}
use Rattle.flow_report.specs.Noting.{AreHooks, NotesAtStart}
use Rattle.flow_report.proofs.NotedHooks.{starts_begun, starts_more}
use Rattle.flow_report.proofs.noting.hooks_of_starts.Goals as goal

pub loop-mode-init : goal.loop-mode-init
loop-mode-init c = starts_begun c.args.app.now c.none-hooks.result c.none-hooks.ensures

pub loop-mode-preserved : goal.loop-mode-preserved
loop-mode-preserved c =
    starts_more c.args.app.now c.loop-mode.mode c.loop-mode.hooks c.in_ok-_state.notes.hooks c.with-hooks.result (mode_no c.loop-mode.mode) refl (ap (λ (x : Stepped). x.notes.hooks) c.in_ok-_state.ensures.start) c.with-hooks.ensures c.loop-mode.invariant

pub returns : goal.returns
returns c =
    let all : c.loop-mode.mode ≡ length c.args.app.now.modes = omega (arith, c.loop-mode-test.false, c.len-mode-end.ensures) in
    subst (λ (n : ℕ). AreHooks (λ (h : ℕ). NotesAtStart c.args.app.now h n) c.loop-mode.hooks) all c.loop-mode.invariant
