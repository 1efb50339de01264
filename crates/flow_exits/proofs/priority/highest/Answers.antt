-- one more ceiling is counted
use Rattle.osek_standard.proofs.CeilingLaws.{next_highest}
use Rattle.flow_exits.proofs.priority.highest.Goals as goal

pub loop-resource-preserved : goal.loop-resource-preserved
loop-resource-preserved c = next_highest _ _ _ _ _ _ c.loop-resource-test.true c.loop-resource.invariant (cc)
