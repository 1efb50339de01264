use Rattle.std.proofs.Common.{◌≡◌}
use Rattle.abstract_state.specs.Domains.{domains_of}
use Rattle.numbered_sets.specs.Pools.{pool_domains}
use Rattle.state_flow.proofs.least_table.pool_of.Given as goal

abbrev pub invariant-loop-component : goal.invariant-loop-component
invariant-loop-component l = pool_domains l.pool ≡ domains_of l.app
