-- all tasks are shown as they are before the step, and so after it all but those that it may change
use Rattle.std.proofs.Common.{◌≡◌, ◌∙◌, ap, rules, subst, sym, true}
use Rattle.std.specs.declared.option.Option.{Option}
use Rattle.osek_values.specs.declared.numbers.TaskNo.{TaskNo}
use Rattle.osek_standard.specs.{declared.state.State.{State}, States.{task_of}}
use Rattle.trace_text.specs.{declared.shown.Unshown.{Unshown}, LineParts.{ShowsBut, ShowsOthers}}
use Rattle.command_runs.proofs.QuietLines.{all_quietly, others_shown}
use Rattle.command_runs.proofs.playing.Play.foresee.Goals as goal

pub returns-then-not-is_quiet-clause-step : goal.returns-then-not-is_quiet-clause-step
returns-then-not-is_quiet-clause-step g c r is =
    let p = c.args.self.now in
    let app = p.machine.image.app in
    let s = p.machine.state in
    let own = sym (c.current.ensures ∙ ap (λ (x : State). task_of x.processor) c.state.ensures.state) in
    subst (λ (o : Option TaskNo). ShowsOthers app r.state o c.named.result p.parts.kept) own
    (others_shown app s r.state c.named.result p.parts.kept c.state.ensures.well c.named.ensures.known (c.named.ensures.changes _ r is)
    (subst (λ (u : Unshown). ShowsBut app s u p.parts.kept) c.in-Nothing.is p.shown))

pub returns-else-not-is_quiet-clause-step : goal.returns-else-not-is_quiet-clause-step
returns-else-not-is_quiet-clause-step g c r is =
    let p = c.args.self.now in
    let app = p.machine.image.app in
    let s = p.machine.state in
    let quiet : c.is_quiet.result ≡ true = search rules in
    subst (λ (u : Unshown). ShowsBut app r.state u p.parts.kept) (sym c.in-Nothing.is)
    (all_quietly app s r.state p.parts.kept (c.is_quiet.ensures r quiet is) (subst (λ (u : Unshown). ShowsBut app s u p.parts.kept) c.in-Nothing.is p.shown))
