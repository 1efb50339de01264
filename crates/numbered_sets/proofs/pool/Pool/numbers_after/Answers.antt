use Rattle.std.proofs.Common.{List, set, sym, ap, subst, ◌∙◌, arith, length, ◌<◌}
use Rattle.abstract_state.specs.declared.value.Domain.TheVariants as domain
use Rattle.numbered_sets.specs.Pools.{Values, no_values, IsExtended, IsLonger}
use Rattle.numbered_sets.proofs.MadeLaws.{longer_at}
use Rattle.numbered_sets.proofs.pool.Pool.numbers_after.Goals as goal

pub returns-clause-pool : goal.returns-clause-pool
returns-clause-pool c =
    let pool = c.self.inside.components in
    let k = c.args.component in
    let known : k < length pool = omega (arith, c.requires.known, ap length c.self.view_is) in
    let at = c.at_mut-seen.ensures.item (no_values domain.Alarm) in
    subst (λ (all : List Values). IsLonger all (set pool k c.numbers_after.new.self)) c.self.view_is
    (longer_at pool k c.numbers_after.new.self known (c.numbers_after.ensures.domain ∙ ap (λ (x : Values). x.domain) (sym at))
    (subst (λ (x : Values). IsExtended x.values c.numbers_after.new.self.values) (sym at) c.numbers_after.ensures.grown))
