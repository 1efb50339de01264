use Rattle.std.proofs.Common.{◌≡◌, ℕ, ◌∙◌, ap, List, [], ◌∷◌, ◌++◌, length, map, arith}
use Rattle.std.specs.List.{range_with_len}
use Rattle.osek_values.specs.Numbers.{task_no}
use Rattle.osek_standard.specs.Apps.{source_count}
use Rattle.flow_model.specs.declared.test.Condition.{Condition}
use Rattle.flow_effects.specs.Conditions.{of_task, of_source}
use Rattle.flow_effects.proofs.ListLaws.{grown}
use Rattle.flow_effects.proofs.routine_resources.of_all.Goals as goal

pub loop-task-preserved : goal.loop-task-preserved
loop-task-preserved c =
    let t = task_no c.loop-task.task in
    grown (λ u. of_task (task_no u) c.args.test.now) [] c.loop-task.conditions c.push.new.self c.loop-task.task c.loop-task.invariant
    (c.in_ok-push.ensures.ok ∙ ap (λ (x : Condition). c.loop-task.conditions ++ x ∷ []) (c.of_task.ensures ∙ ap (of_task t) c.in_ok-test.ensures))

pub returns : goal.returns
returns c =
    let app = c.args.app.now in
    let x = c.args.test.now in
    let last = c.loop-task-test.false in
    let end : c.loop-task.task ≡ length app.tasks = omega (arith, last, c.loop-task.auto.task-end, c.len-task-end.ensures) in
    c.in_ok-add_of_sources.ensures
    ∙ ap (λ (xs : List Condition). xs ++ map (λ l. of_source app l x) (range_with_len 0 (source_count app))) (c.loop-task.invariant ∙ ap (λ (n : ℕ). map (λ u. of_task (task_no u) x) (range_with_len 0 n)) end)
