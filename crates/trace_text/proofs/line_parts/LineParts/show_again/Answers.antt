-- where all are shown as they are, the text is that of the state
use Rattle.std.proofs.Common.{◌∙◌, subst}
use Rattle.trace_text.specs.{declared.shown.Unshown.{Unshown}, LineParts.{ShowsBut}}
use Rattle.trace_text.proofs.KeptLaws.{all_shown}
use Rattle.trace_text.proofs.line_parts.LineParts.show_again.Goals as goal

pub returns-in-Nothing-clause-tasks : goal.returns-in-Nothing-clause-tasks
returns-in-Nothing-clause-tasks c = c.requires.parts.text ∙ all_shown c.args.app.now c.args.state.now c.args.self.now.kept
    (subst (λ (u : Unshown). ShowsBut c.args.app.now c.args.state.now u c.args.self.now.kept) c.in-Nothing.is c.requires.shown)

pub returns-in-Few-clause-tasks : goal.returns-in-Few-clause-tasks
returns-in-Few-clause-tasks c = c.show_few.ensures.parts.text ∙ all_shown c.args.app.now c.args.state.now c.show_few.new.self.kept c.show_few.ensures.shown
