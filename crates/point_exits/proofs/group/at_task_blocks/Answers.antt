use Rattle.std.proofs.Common.{◌≡◌, ℕ, ◌+◌, ◌<◌, ◌≤◌, false, subst, IsTrue}
use Rattle.flow_model.specs.declared.runner.Runner.TheVariants as runners
use Rattle.numbered_sets.specs.{Numbers.{Numbers, has_number}, Pools.{values_at}}
use Rattle.block_sets.specs.{declared.sets.BlockSet.{BlockSet}, AtBlocks.{IsBlockSet}}
use Rattle.point_exits.proofs.TakenBlocks.{more_taken_blocks}
use Rattle.point_exits.proofs.group.at_task_blocks.Goals as goal

pub loop-number-preserved : goal.loop-number-preserved
loop-number-preserved c =
    let m = c.loop-number.number in
    let k = c.next-number-in-loop-number.result in
    let here = c.at-here.result.now in
    let set : IsBlockSet (values_at c.args.pool.now c.args.task.0) here = c.requires.blocks here (c.in-Some.place, c.in-Some.ensures.known, c.at-here.ensures.item here) in
    let has : IsTrue (has_number here.numbers m) = subst (λ (x : BlockSet). IsTrue (has_number x.numbers m)) (c.at-here.ensures.item here) (c.in-Some.ensures.has here) in (
      more_taken_blocks c.args.pool.now c.args.entry.now (runners.Task c.args.task) m k c.loop-number.left c.loop-number.ends here set (c.loop-number.invariant.2 c.loop-number-test.true) has
          (subst (λ (x : Numbers). (n : ℕ) → m + 1 ≤ n → n < k → has_number x n ≡ false) c.in_ok-elsewhere.ensures c.next-number-in-loop-number.ensures.none) c.loop-number.invariant.0
          c.in_ok-elsewhere.elsewhere c.in_ok-numbers.numbers c.index-component.result c.at.result c.push.new.self c.in_ok-elsewhere.ensures c.in_ok-numbers.ensures c.index-component.ensures c.at.ensures c.in_ok-push.ensures.ok,
      c.next-number-in-loop-number.ensures.few,
      c.next-number-in-loop-number.ensures.has,
    )
