use Rattle.std.proofs.Common.{◌≡◌, map, take}
use Rattle.abstract_state.specs.Domains.{domain_of}
use Rattle.table_codec.proofs.reading.new_pool.Given as goal

abbrev pub invariant-loop-component : goal.invariant-loop-component
invariant-loop-component l = l.domains.items ≡ map (domain_of l.app) (take l.component-index l.component-items)
