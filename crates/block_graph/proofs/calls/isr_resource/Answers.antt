use Rattle.task_code.specs.declared.tree.Body.{Body}
use Rattle.block_graph.specs.Rules.{isr_resources_by}
use Rattle.oil_model.proofs.Leasts.{flat_map_step}
use Rattle.block_graph.proofs.calls.isr_resource.Goals as goal

pub loop-body-preserved : goal.loop-body-preserved
loop-body-preserved c =
    rw (c.sooner-best.ensures, c.isr_resource_of.ensures) (flat_map_step (λ (body : Body). isr_resources_by c.args.system.now body.kind body.owner.name body.statements) c.loop-body.best _ c.args.bodies.now c.loop-body.body-index c.body-item.result c.loop-body-test.true c.body-item.is c.loop-body.invariant)
