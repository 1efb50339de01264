use Rattle.std.proofs.Common.{◌≡◌, map, take}
use Rattle.numbered_sets.specs.Pools.{no_values}
use Rattle.numbered_sets.proofs.pool.Pool.new.Given as goal

abbrev pub invariant-loop-domain : goal.invariant-loop-domain
invariant-loop-domain l = l.components ≡ map no_values (take l.domain-index l.domains)
