use Rattle.std.proofs.{Common.{◌≡◌, ◌∙◌, List, map, ap, arith}, lemmas.{List.{take_all}, Result.{IfOk-weaker}}}
use Rattle.abstract_state.specs.Domains.{domain_of, domains_of}
use Rattle.numbered_sets.specs.Pools.{Values, no_values, pool_domains}
use Rattle.table_codec.proofs.ReadSoFar.{component_item, empty_domains}
use Rattle.table_codec.proofs.reading.new_pool.Goals as goal

pub domain_of-requires : goal.domain_of-requires
domain_of-requires c = component_item c.args.app.now c.as_slice-component-items.result.now c.loop-component.component-index _ (c.as_slice-component-items.ensures ∙ c.requires) c.loop-component-test.true

pub returns : goal.returns
returns c =
    let app = c.args.app.now in
    let items = c.as_slice-component-items.result.now in
    let all : c.as_slice.result.now ≡ domains_of app
    = c.as_slice.ensures.value ∙ c.loop-component.invariant
    ∙ ap (map (domain_of app)) (take_all c.loop-component.component-index items (omega (arith, c.loop-component-test.false)) ∙ c.as_slice-component-items.ensures ∙ c.requires) in
    IfOk-weaker c.new.result (λ (pool : List Values). pool ≡ map no_values c.as_slice.result.now) (λ (pool : List Values). pool_domains pool ≡ domains_of app)
    (λ pool e. ap pool_domains e ∙ empty_domains c.as_slice.result.now ∙ all) c.new.ensures
