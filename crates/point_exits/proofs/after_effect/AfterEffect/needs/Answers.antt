use Rattle.std.proofs.Common.{◌≡◌, ◌<◌, ℕ, length, subst, arith}
use Rattle.numbered_sets.specs.Pools.{values_at}
use Rattle.point_exits.specs.Narrowing.{AreNeeds}
use Rattle.point_exits.proofs.{LeftLaws.{tasks_counted}, OwnLevels.{own_known, own_levels, all_judged, one_need_more}}
use Rattle.point_exits.proofs.after_effect.AfterEffect.needs.Goals as goal

pub of-requires : goal.of-requires
of-requires c = (let x = c.args.self.now in own_known x.app.now x.pool.now x.levels.now c.loop-task.task (omega (arith, c.loop-task-test.true, c.len-task-end.ensures)) x.decidable.levels)

pub need-requires : goal.need-requires
need-requires c = omega (arith, c.loop-task-test.true, c.len-task-end.ensures, tasks_counted c.args.self.now.app.now, c.args.self.now.decidable.whole.size)

pub loop-task-preserved : goal.loop-task-preserved
loop-task-preserved c =
    let x = c.args.self.now in
    let k = c.loop-task.task in
    let known : k < length x.app.now.tasks = omega (arith, c.loop-task-test.true, c.len-task-end.ensures) in
    let own = c.of.result.now in
    one_need_more x.app.now x.pool.now x.after k c.loop-task.needs c.push.new.self c.need.result c.in_ok-push.ensures.ok
    (c.need.ensures.least x.app.now (values_at x.pool.now k) (own_levels x.app.now x.pool.now x.levels.now k known x.decidable.levels own c.of.ensures) (all_judged x.app.now x.pool.now x.levels.now k known x.decidable.levels own c.of.ensures x.after x.decidable.whole.numbers))
    c.loop-task.invariant

pub returns : goal.returns
returns c =
    let x = c.args.self.now in
    let same : c.loop-task.task ≡ length x.app.now.tasks = omega (arith, c.loop-task-test.false, c.loop-task.auto.task-end, c.len-task-end.ensures) in
    subst (λ (k : ℕ). AreNeeds x.app.now x.pool.now x.after k c.loop-task.needs) same c.loop-task.invariant
