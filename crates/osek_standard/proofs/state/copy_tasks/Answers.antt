use Rattle.std.proofs.{Common.{length, ◌∙◌, sym, ap, arith, ◌<◌}, Math.ListN.{length-set}}
use Rattle.osek_standard.specs.TaskStates.{suspended}
use Rattle.osek_standard.proofs.CopyLaws.{copied_more}
use Rattle.osek_standard.proofs.state.copy_tasks.Goals as goal

pub loop-task-preserved : goal.loop-task-preserved
loop-task-preserved c =
    let i = c.loop-task.task in
    let below : i < length c.args.from.now = omega (arith, c.loop-task-test.true, c.loop-task.auto.task-end, c.len-task-end.ensures) in
    let same = c.at.ensures.item suspended ∙ sym c.copy.ensures in
    record {
      front = c.put.ensures ∙ copied_more c.args.to.now c.args.from.now c.loop-task.to i c.copy.result suspended (omega (arith, below, c.requires)) below c.loop-task.invariant.front same;
      size = ap (λ l. length l) c.put.ensures ∙ length-set c.loop-task.to i c.copy.result ∙ c.loop-task.invariant.size;
    }
