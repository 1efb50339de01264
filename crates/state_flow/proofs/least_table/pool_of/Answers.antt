use Rattle.std.proofs.Common.{◌∙◌, ap}
use Rattle.numbered_sets.specs.Pools.{pool_domains}
use Rattle.state_flow.proofs.NumberedCells.{domains_kept}
use Rattle.state_flow.proofs.least_table.pool_of.Goals as goal

pub loop-component-init : goal.loop-component-init
loop-component-init c = ap pool_domains c.in_ok-pool.ensures ∙ domains_kept c.as_slice.result.now ∙ c.as_slice.ensures.value ∙ c.in_ok-domains.ensures
