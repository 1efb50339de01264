-- one more interrupt ceiling is counted
use Rattle.osek_standard.proofs.CeilingLaws.{next_level}
use Rattle.ceiling_rules.proofs.interrupts.highest_level.Goals as goal

pub loop-resource-preserved : goal.loop-resource-preserved
loop-resource-preserved c = next_level _ _ _ _ _ _ c.loop-resource-test.true c.loop-resource.invariant (cc)
