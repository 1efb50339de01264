use Rattle.std.proofs.Common.{◌∙◌, ap, List, [], ◌∷◌, ◌++◌, Some}
use Rattle.osek_values.specs.Numbers.{task_no}
use Rattle.osek_values.specs.declared.status.Status.TheVariants as status
use Rattle.flow_model.specs.declared.case.EffectCase.{EffectCase}
use Rattle.flow_model.specs.declared.case.Asked.TheVariants as asked
use Rattle.flow_model.specs.declared.runner.Runner.TheVariants as runner
use Rattle.flow_model.specs.declared.test.Condition.{Condition}
use Rattle.flow_model.specs.declared.test.Test.TheVariants as test
use Rattle.flow_model.specs.Cases.{goes_on}
use Rattle.flow_effects.specs.Conditions.{of_task}
use Rattle.flow_effects.proofs.ListLaws.{grown}
use Rattle.flow_effects.proofs.resources.taken_cases.Goals as goal

pub loop-other-preserved : goal.loop-other-preserved
loop-other-preserved c =
    let t = c.args.task in
    let n = c.args.next in
    let r = c.args.resource in
    grown (λ u. goes_on (runner.Task t) n (of_task (task_no u) (test.Holds r) ∷ []) asked.No (Some status.Access)) [] c.loop-other.cases c.push.new.self c.loop-other.other c.loop-other.invariant
    (c.in_ok-push.ensures.ok
    ∙ ap (λ (x : EffectCase). c.loop-other.cases ++ x ∷ []) (c.in_ok-goes_on.ensures ∙ ap (λ (xs : List Condition). goes_on (runner.Task t) n xs asked.No (Some status.Access)) c.in_ok-conditions.ensures))
