use Rattle.std.proofs.Common.{◌<◌, refl, ap, arith}
use Rattle.osek_values.specs.Numbers.{block_no}
use Rattle.osek_standard.specs.{declared.objects.Task.{Task}, Apps.{no_task}}
use Rattle.table_codec.proofs.shape.may_wait.Goals as goal

pub overflow_add-block-end : goal.overflow_add-block-end
overflow_add-block-end c =
    let owner = c.args.app.now.valid.each_task c.args.task.0 no_task c.requires in
    omega (arith, owner.inside, c.args.app.now.valid.few_blocks, ap (λ (t : Task). t.first.0) c.task-owner.ensures, ap (λ (t : Task). t.count) c.task-owner.ensures)

pub loop-block-init : goal.loop-block-init
loop-block-init c = λ b lt h. omega (arith, lt, h.own.0, ap (λ (t : Task). t.first.0) c.task-owner.ensures)

pub returns-then-waits_at : goal.returns-then-waits_at
returns-then-waits_at c = (λ _. (block_no c.loop-block.block, c.waits_at.ensures.0 c.if-waits_at.true), λ _. refl)

pub returns : goal.returns
returns c = (
  λ e. absurd (cc),
  λ h.
      let owner = c.args.app.now.valid.each_task c.args.task.0 no_task c.requires in
      let below : h.0.0 < c.loop-block.block = omega (arith, h.1.own.1, owner.some, c.loop-block-test.false, ap (λ (t : Task). t.first.0) c.task-owner.ensures, ap (λ (t : Task). t.count) c.task-owner.ensures) in
      absurd (c.loop-block.invariant h.0.0 below h.1),
)
