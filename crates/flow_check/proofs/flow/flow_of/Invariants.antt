use Rattle.std.proofs.Common.{◌≡◌}
use Rattle.flow_check.proofs.FlowLaws.{HasPassed}
use Rattle.flow_check.proofs.flow.flow_of.Given as goal

abbrev pub invariant-loop-row : goal.invariant-loop-row
invariant-loop-row l = record {
  app : l.numbering.app.now ≡ l.app;
  passed : HasPassed l.app l.fn.pool l.numbering.pool l.rows l.row-index l.sites;
}
