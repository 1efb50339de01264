use Rattle.std.proofs.Common.{ℕ, sym, ◌∙◌}
use Rattle.abstract_state.proofs.RangeLaws.{passed_more, failed_more}
use Rattle.flow_model.specs.declared.change.Change.{Change}
use Rattle.flow_model.specs.declared.change.Update.TheVariants as update
use Rattle.flow_model.specs.{Runners.{change}, Scheduling.{goes_inside}}
use Rattle.flow_rules.proofs.settling.settling_changes.Goals as goal
use Rattle.flow_rules.proofs.settling.settling_changes.Goals.{then-goes_inside+in_ok-push, else-goes_inside}

pub loop-task-preserved : goal.loop-task-preserved
loop-task-preserved c =
    let goes = goes_inside c.args.app.now c.args.stay c.args.decision in
    let brings : ℕ → Change = λ t. change t update.Inside in
    elim c.if-goes_inside.branch [
      | then-goes_inside+in_ok-push w ↦ w.changes-is ∙ w.in_ok-push.ensures.ok ∙ passed_more goes brings c.loop-task.changes c.loop-task.task c.loop-task.invariant (sym c.goes_inside.ensures ∙ w.if-goes_inside.true)
      | else-goes_inside w ↦ w.changes-is ∙ failed_more goes brings c.loop-task.changes c.loop-task.task c.loop-task.invariant (sym c.goes_inside.ensures ∙ w.if-goes_inside.false)
    ]
