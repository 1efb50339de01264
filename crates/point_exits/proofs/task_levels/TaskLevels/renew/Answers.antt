use Rattle.std.proofs.Common.{◌≡◌, ℕ, ◌+◌, length, refl, subst, ◌∙◌, arith}
use Rattle.numbered_sets.specs.Pools.{values_at}
use Rattle.block_sets.specs.AtBlocks.{AreBlockSets}
use Rattle.point_exits.specs.Levels.{AreLevelsOf}
use Rattle.point_exits.proofs.LevelLaws.{blocks_renewed}
use Rattle.point_exits.proofs.task_levels.TaskLevels.renew.Goals as goal

-- the next values came to those at their blocks
pub loop-number-init : goal.loop-number-init
loop-number-init c =
    let pool = c.args.values.now.pool.now in
    let t = c.args.values.now.task.0 in
    let x = c.args.self.now in
    let blocks = c.renew.new.self in (
      blocks_renewed c.args.values.now.app.now t (values_at pool t) x blocks c.requires
          (subst (λ (k : ℕ). AreBlockSets (values_at pool k) x.blocks.sets → AreBlockSets (values_at pool k) blocks.sets) c.index-component.ensures c.renew.ensures),
      refl,
    )

pub returns-in_err-renew-clause-levels : goal.returns-in_err-renew-clause-levels
returns-in_err-renew-clause-levels c =
    let pool = c.args.values.now.pool.now in
    let t = c.args.values.now.task.0 in
    let x = c.args.self.now in
    let blocks = c.renew.new.self in
    blocks_renewed c.args.values.now.app.now t (values_at pool t) x blocks c.requires
    (subst (λ (k : ℕ). AreBlockSets (values_at pool k) x.blocks.sets → AreBlockSets (values_at pool k) blocks.sets) c.index-component.ensures c.renew.ensures)

pub judge_next-requires : goal.judge_next-requires
judge_next-requires c =
    let end = subst (λ (k : ℕ). c.len-count.result ≡ length (values_at c.args.values.now.pool.now k)) c.index-component.ensures c.len-count.ensures in
    record {
      levels = c.loop-number.invariant.0;
      next = omega (arith, c.loop-number-test.true, end, c.loop-number.invariant.1);
    }

pub loop-number-preserved : goal.loop-number-preserved
loop-number-preserved c =
    let y = c.judge_next.new.self in
    let next = c.in_ok-judge_next.ensures in (
      subst (λ (n : ℕ). AreLevelsOf c.args.values.now (record { judged = n + 1; dead = y.dead; levels = y.levels; blocks = y.blocks })) (next.judged ∙ c.loop-number.invariant.1) next.levels,
      refl,
    )
