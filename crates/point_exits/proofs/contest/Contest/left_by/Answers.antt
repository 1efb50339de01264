use Rattle.std.proofs.Common.{◌≡◌, ℕ, Bool, length, sym, subst, arith}
use Rattle.std.specs.Bool.{OnTrue, OnFalse}
use Rattle.flow_exits.specs.Needs.{IsTooLow}
use Rattle.point_exits.specs.{Narrowing.{AreMet}, AfterEffect.{AreNeedsOf, IsLeftBy}}
use Rattle.point_exits.proofs.LeftLaws.{nothing_left_out, filled_left, never_under}
use Rattle.point_exits.proofs.contest.Contest.left_by.Goals as goal

pub loop-task-init : goal.loop-task-init
loop-task-init c = (let x = c.args.self.now.values.now in subst (IsLeftBy x c.args.claim 0) (sym c.in_ok-left.ensures) (nothing_left_out x.app.now c.args.claim x.pool.now x.after))

pub returns-clause-left : goal.returns-clause-left
returns-clause-left c =
    let x = c.args.self.now.values.now in
    let same : c.loop-task.task ≡ length x.app.now.tasks = omega (arith, c.loop-task-test.false, c.loop-task.auto.task-end, c.len-task-end.ensures) in
    subst (λ (k : ℕ). IsLeftBy x c.args.claim k c.loop-task.left) same c.loop-task.invariant

pub returns-clause-filled : goal.returns-clause-filled
returns-clause-filled c =
    let x = c.args.self.now.values.now in
    let needs = c.as_slice.result.now in
    let needed = subst (AreNeedsOf x) (sym c.as_slice.ensures) c.args.self.now.needed in
    let same : c.loop-task.task ≡ length x.app.now.tasks = omega (arith, c.loop-task-test.false, c.loop-task.auto.task-end, c.len-task-end.ensures) in
    let left = subst (λ (k : ℕ). IsLeftBy x c.args.claim k c.loop-task.left) same c.loop-task.invariant in
    let met = subst (λ (b : Bool). OnTrue b (AreMet c.args.claim needs)) c.if-not-are_met.false c.are_met.ensures.met in
    filled_left x.app.now x.pool.now c.args.claim x.after needs needed c.loop-task.left left met x.decidable.whole.filled

pub returns-then-not-are_met-clause-none : goal.returns-then-not-are_met-clause-none
returns-then-not-are_met-clause-none c =
    let x = c.args.self.now.values.now in
    let needs = c.as_slice.result.now in
    let needed = subst (AreNeedsOf x) (sym c.as_slice.ensures) c.args.self.now.needed in
    let low = subst (λ (b : Bool). OnFalse b (IsTooLow c.args.claim needs)) c.if-not-are_met.true c.are_met.ensures.low in
    never_under x.app.now x.pool.now c.args.claim x.after needs needed low
