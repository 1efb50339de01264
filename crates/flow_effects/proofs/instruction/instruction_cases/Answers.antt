-- by the lemma of each kind
use Rattle.std.proofs.Common.{refl, ap, ◌∙◌}
use Rattle.osek_standard.specs.declared.block.Block.{Block}
use Rattle.flow_model.specs.Runners.{runner_point}
use Rattle.flow_effects.specs.{Moves.{onward, work_cases, choice_cases}, Outs.{AreCasesWith}}
use Rattle.flow_effects.proofs.{Listed.{ok_list, ok_list_with, ok_with, owner_known}, MoveCases.{all_work, both_ways, loop_cases, count_cases}, TaskEndCases.{all_task_ends}, ReturnCases.{all_returns}}
use Rattle.flow_effects.proofs.instruction.instruction_cases.Goals as goal

pub returns-in-Work : goal.returns-in-Work
returns-in-Work c =
    let is = ap (λ (x : Block). x.kind) c.block-2.ensures ∙ c.in-Work.is in
    ok_list_with c.args.app.now c.args.outs.now (runner_point c.args.runner c.args.block) _ _ c.work_cases.result c.work_cases.ensures
    (ap (λ (x : Block). work_cases c.args.runner c.args.block x.next c.in-Work.count) c.block.ensures)
    (all_work c.args.app.now c.args.runner c.args.block c.requires.owns c.in-Work.count is)

pub returns-in-Choice : goal.returns-in-Choice
returns-in-Choice c =
    let is = ap (λ (x : Block). x.kind) c.block-2.ensures ∙ c.in-Choice.is in
    ok_list_with c.args.app.now c.args.outs.now (runner_point c.args.runner c.args.block) _ _ c.choice_cases.result c.choice_cases.ensures
    (ap (λ (x : Block). choice_cases c.args.runner x.next c.in-Choice.other) c.block.ensures)
    (both_ways c.args.app.now c.args.runner c.args.block c.requires.owns c.in-Choice.other is)

pub returns-in-Loop : goal.returns-in-Loop
returns-in-Loop c =
    let is = ap (λ (x : Block). x.kind) c.block-2.ensures ∙ c.in-Loop.is in
    ok_list_with c.args.app.now c.args.outs.now (runner_point c.args.runner c.args.block) _ _ c.onward.result c.onward.ensures
    (ap (λ (x : Block). onward c.args.runner x.next) c.block.ensures)
    (loop_cases c.args.app.now c.args.runner c.args.block c.requires.owns is)

pub returns-in-TaskEnd : goal.returns-in-TaskEnd
returns-in-TaskEnd c =
    let is = ap (λ (x : Block). x.kind) c.block-2.ensures ∙ c.in-TaskEnd.is in
    ok_list_with c.args.app.now c.args.outs.now (runner_point c.args.runner c.args.block) _ _ c.task_end_cases.result c.task_end_cases.ensures refl
    (all_task_ends c.args.app.now c.args.block c.args.runner c.requires.owns is)

pub return_cases-requires : goal.return_cases-requires
return_cases-requires c = record { known = owner_known c.args.app.now c.args.runner c.args.block c.requires.owns }

pub returns-in-IsrEnd : goal.returns-in-IsrEnd
returns-in-IsrEnd c =
    let is = ap (λ (x : Block). x.kind) c.block-2.ensures ∙ c.in-IsrEnd.is in
    ok_list (AreCasesWith c.args.app.now c.args.outs.now (runner_point c.args.runner c.args.block)) _ _ c.return_cases.result c.return_cases.ensures refl
    (all_returns c.args.app.now c.args.block is c.args.outs.now c.args.runner c.requires.owns)

pub returns-in-CountUp : goal.returns-in-CountUp
returns-in-CountUp c =
    let is = ap (λ (x : Block). x.kind) c.block-2.ensures ∙ c.in-CountUp.is in
    ok_list_with c.args.app.now c.args.outs.now (runner_point c.args.runner c.args.block) _ _ c.onward-in-CountUp.result c.onward-in-CountUp.ensures
    (ap (λ (x : Block). onward c.args.runner x.next) c.block.ensures)
    (count_cases c.args.app.now c.args.runner c.args.block c.requires.owns is)

pub returns-in-Call : goal.returns-in-Call
returns-in-Call c = ok_with c.args.app.now c.args.outs.now (runner_point c.args.runner c.args.block) c.call_cases.result c.call_cases.ensures
