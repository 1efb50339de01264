use Rattle.flow_rules.specs.Allowed.{may_be_by}
use Rattle.flow_rules.proofs.AllowedSets.{IsPartUpTo}
use Rattle.flow_rules.proofs.allowing.allowed_set.Given as goal

abbrev pub invariant-loop-value : goal.invariant-loop-value
invariant-loop-value l = IsPartUpTo (may_be_by l.app l.point l.component) l.set l.value-index l.part
