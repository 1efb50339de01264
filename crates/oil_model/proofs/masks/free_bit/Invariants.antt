use Rattle.std.proofs.Common.{◌≡◌, ◌-◌}
use Rattle.oil_model.specs.Objects.{free_from, free_bit}
use Rattle.oil_model.proofs.masks.free_bit.Given as goal

abbrev pub invariant-loop-k : goal.invariant-loop-k
invariant-loop-k l = free_from l.used l.k (64 - l.k) ≡ free_bit l.used
