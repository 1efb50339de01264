use Rattle.std.proofs.Common.{◌≡◌}
use Rattle.osek_standard.specs.Counts.{stacks}
use Rattle.osek_standard.proofs.counts.stacks.Given as goal

abbrev pub invariant-loop-fewer : goal.invariant-loop-fewer
invariant-loop-fewer l = l.found ≡ stacks l.fewer
