use Rattle.flow_report.proofs.FindingsApart.{finding_once}
use Rattle.flow_report.proofs.laws.a_line_tells_one_finding.Goals as goal

pub returns : goal.returns
returns c = finding_once
