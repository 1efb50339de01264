-- the prefix is the other's
use Rattle.std.proofs.Common.{◌≡◌, ◌++◌, drop, take, length}
use Rattle.osek_standard.proofs.state.copy_sources.Given as goal

abbrev pub invariant-loop-source : goal.invariant-loop-source
invariant-loop-source l = record {
  prefix : l.to ≡ take l.source l.from ++ drop l.source l.fn.to;
  size : length l.to ≡ length l.from;
}
