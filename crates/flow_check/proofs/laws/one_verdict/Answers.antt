use Rattle.flow_check.proofs.VerdictLaws.{one_verdict}
use Rattle.flow_check.proofs.laws.one_verdict.Goals as goal

pub returns : goal.returns
returns c = one_verdict
