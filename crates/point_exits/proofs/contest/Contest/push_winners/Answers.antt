use Rattle.std.proofs.Common.{◌≡◌, ℕ, length, subst, arith}
use Rattle.osek_values.specs.Numbers.{task_no}
use Rattle.point_exits.specs.{Deciding.{IsWinnerBelow}, AfterEffect.{Adds}}
use Rattle.point_exits.proofs.AddingLaws.{no_winner, one_winner_more}
use Rattle.point_exits.proofs.contest.Contest.push_winners.Goals as goal

pub loop-task-init : goal.loop-task-init
loop-task-init c = (let x = c.args.self.now.values.now in no_winner x.app.now x.pool.now x.leaving x.after c.args.groups.now.items)

pub loop-task-preserved : goal.loop-task-preserved
loop-task-preserved c =
    let x = c.args.self.now.values.now in
    one_winner_more x.app.now x.pool.now x.leaving x.after (task_no c.loop-task.task) c.args.groups.now.items c.loop-task.groups.items c.push_winner.new.groups.items c.loop-task.invariant c.in_ok-push_winner.ensures

pub returns : goal.returns
returns c =
    let x = c.args.self.now.values.now in
    let same : c.loop-task.task ≡ length x.app.now.tasks = omega (arith, c.loop-task-test.false, c.loop-task.auto.task-end, c.len-task-end.ensures) in
    subst (λ (k : ℕ). Adds x (IsWinnerBelow k) c.args.groups.now.items c.loop-task.groups.items) same c.loop-task.invariant
