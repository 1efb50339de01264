use Rattle.block_graph.specs.Locks.{unpaired}
use Rattle.oil_model.proofs.Leasts.{flat_map_step}
use Rattle.block_graph.proofs.pairs.unpaired_lock.Goals as goal

pub loop-body-preserved : goal.loop-body-preserved
loop-body-preserved c =
    rw (c.sooner-best.ensures, c.unpaired.ensures) (flat_map_step unpaired c.loop-body.best _ c.args.bodies.now c.loop-body.body-index c.body-item.result c.loop-body-test.true c.body-item.is c.loop-body.invariant)
