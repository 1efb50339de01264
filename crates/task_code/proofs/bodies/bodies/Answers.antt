use Rattle.task_code.proofs.BodiesRead.{reads_all, bodies_join, bodies_take, bodies_within}
use Rattle.task_code.proofs.bodies.bodies.Goals as goal

pub returns : goal.returns
returns c = reads_all _ _ _ _ c.loop-token.invariant.joins c.loop-token.invariant.takes c.loop-token.invariant.within c.in_default.ensures c.of.ensures

pub loop-token-preserved : goal.loop-token-preserved
loop-token-preserved c =
    let before = c.loop-token.invariant in
    let read = c.in_ok-next.ensures in
    let same = c.in_ok-push.ensures.items in
    record {
      joins = bodies_join _ _ _ _ _ _ _ _ before.joins c.in-Some.ensures read same;
      takes = bodies_take _ _ _ _ _ _ before.takes c.in-Some.ensures read;
      within = bodies_within _ _ _ before.within read.within same;
    }
