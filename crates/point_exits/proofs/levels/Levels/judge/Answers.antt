use Rattle.std.proofs.Common.{◌<◌, length, set, refl, sym, subst, arith}
use Rattle.numbered_sets.specs.Pools.{values_at}
use Rattle.point_exits.specs.{declared.levels.Levels.{Levels}, Levels.{AreTaskLevels, AreAllInside}}
use Rattle.point_exits.proofs.{EntryCounts.{pool_has_tasks}, LevelLaws.{levels_with, judged_with}}
use Rattle.point_exits.proofs.levels.Levels.judge.Goals as goal

pub invariant_of-values : goal.invariant_of-values
invariant_of-values c =
    let tasks = pool_has_tasks c.args.app.now c.args.pool.now c.requires.domains in
    record {
      known = omega (arith, c.loop-task-test.true, c.len-task-end.ensures);
      seen = omega (arith, c.loop-task-test.true, c.len-task-end.ensures, tasks);
    }

pub renew-requires : goal.renew-requires
renew-requires c =
    let u = c.loop-task.task in
    let its = c.at_mut-levels.result.now in
    let known : u < length c.args.app.now.tasks = omega (arith, c.loop-task-test.true, c.len-task-end.ensures) in
    subst (AreTaskLevels c.args.app.now u (values_at c.args.pool.now u)) (c.at_mut-levels.ensures.item its) (c.loop-task.invariant.are.each u its known)

pub loop-task-preserved : goal.loop-task-preserved
loop-task-preserved c =
    let app = c.args.app.now in
    let pool = c.args.pool.now in
    let u = c.loop-task.task in
    let known : u < length app.tasks = omega (arith, c.loop-task-test.true, c.len-task-end.ensures) in
    let so_far = c.loop-task.invariant in
    let after : Levels = record { tasks = set c.loop-task.self.tasks u c.renew.new.self; insides = c.loop-task.self.insides; arrivals = c.loop-task.self.arrivals } in
    record {
      are = levels_with app pool c.loop-task.self after u c.renew.new.self so_far.are known refl refl refl c.renew.ensures.levels;
      judged = judged_with app pool c.loop-task.self after u c.renew.new.self so_far.are known refl refl refl c.renew.ensures.levels c.in_ok-renew.ensures.all so_far.judged;
      same = so_far.same;
    }

pub returns-in_err-renew-clause-levels : goal.returns-in_err-renew-clause-levels
returns-in_err-renew-clause-levels c =
    let app = c.args.app.now in
    let u = c.loop-task.task in
    let known : u < length app.tasks = omega (arith, c.loop-task-test.true, c.len-task-end.ensures) in
    let after : Levels = record { tasks = set c.loop-task.self.tasks u c.renew.new.self; insides = c.loop-task.self.insides; arrivals = c.loop-task.self.arrivals } in
    levels_with app c.args.pool.now c.loop-task.self after u c.renew.new.self c.loop-task.invariant.are known refl refl refl c.renew.ensures.levels

pub returns-clause-all : goal.returns-clause-all
returns-clause-all c = λ inside.
    let inv = c.loop-task.invariant in
    record {
      are = inv.are;
      all = λ u d lt. inv.judged u d (omega (arith, lt, c.loop-task-test.false, c.len-task-end.ensures));
      inside = subst (AreAllInside c.args.pool.now) (sym inv.same) inside;
    }
