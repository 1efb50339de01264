-- where all tasks are shown as they are, the text is that of the state
use Rattle.std.proofs.Common.{◌∙◌, subst}
use Rattle.trace_text.specs.{declared.shown.Unshown.{Unshown}, LineParts.{ShowsBut}}
use Rattle.trace_text.proofs.KeptLaws.{all_shown}
use Rattle.command_runs.proofs.playing.Play.show_tasks.Goals as goal

pub returns-in-Nothing-clause-shown : goal.returns-in-Nothing-clause-shown
returns-in-Nothing-clause-shown g c =
    let p = c.args.self.now in
    let app = p.machine.image.app in
    let s = p.machine.state in
    p.of_app.text ∙ all_shown app s p.parts.kept (subst (λ (u : Unshown). ShowsBut app s u p.parts.kept) c.in-Nothing.is p.shown)
