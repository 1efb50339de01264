use Rattle.std.proofs.Common.{arith}
use Rattle.flow_report.proofs.reporting.report.Goals as goal

pub report_with-requires-clause-known : goal.report_with-requires-clause-known
report_with-requires-clause-known c = λ x row known listed at. absurd (omega (arith, known.1))
