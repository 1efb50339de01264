use Rattle.std.proofs.Common.{◌+◌, sym, subst, arith}
use Rattle.point_exits.proofs.{EntryCounts.{pool_has_tasks}, InsideLevels.{insides_begun}, LevelLaws.{AreLevelsUpTo, levels_next, all_levels}}
use Rattle.point_exits.proofs.numbering.Numbering.new.Goals as goal

pub domain-requires : goal.domain-requires
domain-requires c = (let tasks = pool_has_tasks c.args.app.now c.args.pool c.requires in omega (arith, c.loop-task-test.true, c.len-task-end.ensures, tasks))

pub loop-task-preserved : goal.loop-task-preserved
loop-task-preserved c =
    subst (AreLevelsUpTo c.args.app.now c.args.pool (c.loop-task.task + 1)) (sym c.in_ok-push.ensures.ok)
    (levels_next c.args.app.now c.args.pool c.loop-task.task c.loop-task.tasks c.new.result c.loop-task.invariant (c.new.ensures.levels c.args.app.now))

pub invariant_of-result : goal.invariant_of-result
invariant_of-result c =
    let app = c.args.app.now in
    let pool = c.args.pool in
    let insides = c.in_ok-insides.insides in
    record {
      domains = c.requires;
      known = all_levels app pool (record { tasks = c.loop-task.tasks; insides = insides; arrivals = record { known = c.new-known.result } }) c.loop-task.task c.loop-task.invariant
          (omega (arith, c.loop-task-test.false, c.loop-task.auto.task-end, c.len-task-end.ensures)) (insides_begun app pool insides c.in_ok-insides.ensures) c.new-known.ensures;
      conditions = c.new-waits.ensures app;
    }
