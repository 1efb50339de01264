use Rattle.std.proofs.Common.{set, ap, sym, ◌∙◌}
use Rattle.std.proofs.lemmas.List.{set-get_or}
use Rattle.numbered_sets.specs.Pools.{Values}
use Rattle.numbered_sets.proofs.pool.Pool.passing.Goals as goal

pub returns-clause-same : goal.returns-clause-same
returns-clause-same c =
    let all = c.self.inside.components in
    ap (λ (x : Values). set all c.args.component x) (c.passing.ensures.same ∙ sym (c.at_mut.ensures.item c.at_mut.result.now))
    ∙ set-get_or all c.args.component c.at_mut.result.now ∙ c.self.view_is
