use Rattle.std.proofs.Common.{◌≡◌, map}
use Rattle.std.specs.List.{range_with_len}
use Rattle.flow_check.specs.Outcomes.{first_found}
use Rattle.flow_check.proofs.outcomes.no_findings.Given as goal

abbrev pub invariant-loop-block : goal.invariant-loop-block
invariant-loop-block l = l.sites ≡ map (first_found l.app) (range_with_len 0 l.block)
