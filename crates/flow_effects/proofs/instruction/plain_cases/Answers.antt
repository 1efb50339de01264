-- by the lemma of each service
use Rattle.std.proofs.Common.{ap, ◌∙◌}
use Rattle.osek_standard.specs.declared.block.Block.{Block}
use Rattle.osek_standard.specs.declared.block.Kind.TheVariants as kind
use Rattle.flow_effects.specs.CallNames as call
use Rattle.osek_standard.specs.declared.call.PlainService.{PlainService}
use Rattle.flow_effects.specs.TaskEnds.{terminate_cases, schedule_cases}
use Rattle.flow_effects.proofs.TaskEndCases.{all_terminates, all_schedules}
use Rattle.flow_model.specs.{Runners.{runner_point}, Effects.{AreCasesOf}}
use Rattle.flow_effects.proofs.Listed.{ok_list}
use Rattle.flow_effects.proofs.instruction.plain_cases.Goals as goal

pub returns-in-TerminateTask : goal.returns-in-TerminateTask
returns-in-TerminateTask c =
    let is = c.requires.kind ∙ ap (λ (x : PlainService). kind.Call (call.Plain x)) c.in-TerminateTask.is in
    ok_list (AreCasesOf c.args.app.now (runner_point c.args.runner c.args.block)) _ _ c.terminate_cases.result c.terminate_cases.ensures
    (ap (λ (x : Block). terminate_cases c.args.app.now c.args.runner x.next) c.block.ensures)
    (all_terminates c.args.app.now c.args.block c.args.runner c.requires.owns is)

pub returns-in-Schedule : goal.returns-in-Schedule
returns-in-Schedule c =
    let is = c.requires.kind ∙ ap (λ (x : PlainService). kind.Call (call.Plain x)) c.in-Schedule.is in
    ok_list (AreCasesOf c.args.app.now (runner_point c.args.runner c.args.block)) _ _ c.schedule_cases.result c.schedule_cases.ensures
    (ap (λ (x : Block). schedule_cases c.args.runner x.next) c.block.ensures)
    (all_schedules c.args.app.now c.args.block c.args.runner c.requires.owns is)
