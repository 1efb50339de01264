use Rattle.std.proofs.Common.{◌≡◌, ◌<◌, Some, length, ap, subst, ◌∙◌, arith}
use Rattle.std.specs.declared.option.Option.{Option}
use Rattle.osek_values.specs.declared.numbers.TaskNo.{TaskNo}
use Rattle.abstract_state.specs.Components.{component_count}
use Rattle.abstract_state.proofs.ComponentLaws.{task_counted}
use Rattle.flow_model.specs.declared.case.Decision.TheVariants as decision
use Rattle.flow_model.specs.declared.case.Stay.TheVariants as stay
use Rattle.flow_model.specs.declared.runner.Runner.TheVariants as runner
use Rattle.flow_model.specs.declared.runner.Runner.{Runner}
use Rattle.flow_model.specs.{Effects.{IsKnownStay}, Runners.{component_of}}
use Rattle.point_exits.specs.Deciding.{IsKnownDecision}
use Rattle.point_exits.proofs.{ExitLaws.{runner_counted}, OwnLevels.{own_levels}}
use Rattle.point_exits.proofs.decided.Decided.ends.Goals as goal

pub at_blocks-requires-clause-known : goal.at_blocks-requires-clause-known
at_blocks-requires-clause-known c =
    let app = c.args.self.now.app.now in
    let r = c.in-AtBlockOf.runner in
    let counted : component_of r < component_count app = runner_counted app r (subst (IsKnownStay app) c.in-AtBlockOf.is c.args.self.now.decided.stay) in
    omega (arith, counted, c.args.self.now.decided.whole.size)

-- the task at whose block it stays
pub at_task_blocks-requires-clause-known : goal.at_task_blocks-requires-clause-known
at_task_blocks-requires-clause-known c =
    let app = c.args.self.now.app.now in
    let t = c.in-AtBlockOf-Task.task in
    let its : c.in-AtBlockOf-Task.field-0 ≡ runner.Task t = rw c.in-AtBlockOf-Task.is at c.in-AtBlockOf-Task.field-0-is in
    let known : t.0 < length app.tasks = subst (IsKnownStay app) (c.in-AtBlockOf-Task.is ∙ ap (λ (r : Runner). stay.AtBlockOf r) its) c.args.self.now.decided.stay in
    omega (arith, known, task_counted app t.0 known, c.args.self.now.decided.whole.size)

pub at_task_blocks-requires-clause-blocks : goal.at_task_blocks-requires-clause-blocks
at_task_blocks-requires-clause-blocks c =
    let app = c.args.self.now.app.now in
    let t = c.in-AtBlockOf-Task.task in
    let its : c.in-AtBlockOf-Task.field-0 ≡ runner.Task t = rw c.in-AtBlockOf-Task.is at c.in-AtBlockOf-Task.field-0-is in
    let known : t.0 < length app.tasks = subst (IsKnownStay app) (c.in-AtBlockOf-Task.is ∙ ap (λ (r : Runner). stay.AtBlockOf r) its) c.args.self.now.decided.stay in
    (own_levels app c.args.self.now.pool.now c.args.self.now.levels.now t.0 known c.args.self.now.decided.levels c.of.result.now c.of.ensures).blocks

-- the task that gets the processor
pub at_task_blocks-requires-in-To-Some-clause-known : goal.at_task_blocks-requires-in-To-Some-clause-known
at_task_blocks-requires-in-To-Some-clause-known c =
    let app = c.args.self.now.app.now in
    let t = c.in-To-Some.task in
    let some : c.in-To-Some.field-0 ≡ Some t = rw c.in-To-Some.is at c.in-To-Some.field-0-is in
    let known : t.0 < length app.tasks = subst (IsKnownDecision app) (c.in-To-Some.is ∙ ap (λ (o : Option TaskNo). decision.To o) some) c.args.self.now.decided.known in
    omega (arith, known, task_counted app t.0 known, c.args.self.now.decided.whole.size)

pub at_task_blocks-requires-in-To-Some-clause-blocks : goal.at_task_blocks-requires-in-To-Some-clause-blocks
at_task_blocks-requires-in-To-Some-clause-blocks c =
    let app = c.args.self.now.app.now in
    let t = c.in-To-Some.task in
    let some : c.in-To-Some.field-0 ≡ Some t = rw c.in-To-Some.is at c.in-To-Some.field-0-is in
    let known : t.0 < length app.tasks = subst (IsKnownDecision app) (c.in-To-Some.is ∙ ap (λ (o : Option TaskNo). decision.To o) some) c.args.self.now.decided.known in
    (own_levels app c.args.self.now.pool.now c.args.self.now.levels.now t.0 known c.args.self.now.decided.levels c.of-in-To-Some.result.now c.of-in-To-Some.ensures).blocks
