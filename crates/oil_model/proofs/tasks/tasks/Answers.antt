use Rattle.std.proofs.Common.{◌≤◌, List, ◌++◌, ◌∷◌, [], Bool, sym, ◌∙◌}
use Rattle.std.specs.Prelude.{codes}
use Rattle.oil_tree.specs.declared.tree.Object.{Object}
use Rattle.oil_system.specs.declared.system.TaskObject.{TaskObject}
use Rattle.oil_model.specs.{Objects.{is_kind, priority, activation}, Systems.{task}}
use Rattle.oil_model.proofs.{Clean.{at_passing}, Collected.{collects, passes_over, collected}, Facts.{priorities, few_activations}}
use Rattle.oil_model.proofs.tasks.tasks.Goals as goal
use Rattle.oil_model.proofs.tasks.tasks.Goals.{then-is_kind+in_ok-task+in_ok-push, else-is_kind}

pub task-requires-clause-in_range : goal.task-requires-clause-in_range
task-requires-clause-in_range c = at_passing (λ (o : Object). priority o ≤ 65535) (is_kind (codes "TASK")) c.args.objects.now c.loop-object.object-index c.object-item.result (priorities c.args.objects.now c.requires.allowed) c.loop-object-test.true c.object-item.is (sym c.is_kind.ensures ∙ c.if-is_kind.true)

pub task-requires-clause-activated : goal.task-requires-clause-activated
task-requires-clause-activated c = at_passing (λ (o : Object). activation o ≤ 255) (is_kind (codes "TASK")) c.args.objects.now c.loop-object.object-index c.object-item.result (few_activations c.args.objects.now c.requires.activated) c.loop-object-test.true c.object-item.is (sym c.is_kind.ensures ∙ c.if-is_kind.true)

pub loop-object-preserved : goal.loop-object-preserved
loop-object-preserved c =
    let kind : Object → Bool = is_kind (codes "TASK") in
    let made : Object → TaskObject = task c.args.modes.now c.args.events.now c.args.resources.now in
    let before : List TaskObject = c.loop-object.found.items in
    elim c.if-is_kind.branch [
      | then-is_kind+in_ok-task+in_ok-push w ↦ collects kind made c.args.objects.now c.loop-object.object-index before c.loop-object.invariant c.object-item.result c.loop-object-test.true c.object-item.is (sym c.is_kind.ensures ∙ w.if-is_kind.true) ((λ i. (w.found-is i).items) ∙ w.in_ok-push.ensures.items ∙ (λ i. before ++ w.in_ok-task.ensures i ∷ []))
      | else-is_kind w ↦ passes_over kind made c.args.objects.now c.loop-object.object-index before c.loop-object.invariant c.object-item.result c.loop-object-test.true c.object-item.is (sym c.is_kind.ensures ∙ w.if-is_kind.false) (λ i. (w.found-is i).items)
    ]

pub returns : goal.returns
returns c = c.of.ensures ∙ collected (is_kind (codes "TASK")) (task c.args.modes.now c.args.events.now c.args.resources.now) c.args.objects.now c.loop-object.object-index c.loop-object.found.items c.loop-object.invariant c.loop-object-test.false
