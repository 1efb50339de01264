use Rattle.std.proofs.Common.{◌∙◌, Option, sym, ap}
use Rattle.std.specs.Prelude.{bit_and}
use Rattle.osek_values.specs.{Hooks.{hook_set}, declared.hooks.HookSet.{HookSet}}
use Rattle.osek_standard.specs.Effects.{wanted}
use Rattle.flow_model.specs.{declared.case.Decision.{Decision}, Rules.{mark_by}}
use Rattle.flow_report.specs.Noting.{due_hooks}
use Rattle.flow_report.proofs.HookBits.{wanted_none}
use Rattle.flow_report.proofs.noting.hooks_of_exit.Goals as goal

pub returns-in-None : goal.returns-in-None
returns-in-None c =
    let app = c.args.app.now in
    let x = c.args.exit.now in
    c.none.ensures ∙ sym (wanted_none app) ∙ sym (ap (λ (d : Option Decision). wanted app (due_hooks app c.args.point (mark_by d x.status))) c.in-None.is)

pub returns-in-Some : goal.returns-in-Some
returns-in-Some c =
    let app = c.args.app.now in
    let x = c.args.exit.now in
    c.among.ensures ∙ ap (λ (y : HookSet). hook_set (bit_and app.hooks.0 y.0)) c.hooks_due.ensures ∙ sym (ap (λ (d : Option Decision). wanted app (due_hooks app c.args.point (mark_by d x.status))) c.in-Some.is)
