use Rattle.oil_model.specs.Lists.{found_of}
use Rattle.oil_model.proofs.Leasts.{flat_map_step}
use Rattle.oil_model.proofs.lists.least_in.Goals as goal

pub loop-object-preserved : goal.loop-object-preserved
loop-object-preserved g c =
    rw (c.sooner-best.ensures, c.least_of.ensures) (flat_map_step (found_of (g.R.ListRule.found c.args.objects.now)) c.loop-object.best _ c.args.objects.now c.loop-object.object-index c.object-item.result c.loop-object-test.true c.object-item.is c.loop-object.invariant)
