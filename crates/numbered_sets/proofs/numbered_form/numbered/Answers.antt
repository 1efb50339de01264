use Rattle.std.proofs.{Common.{◌+◌, ◌<◌, List, length, get_or, map, sym, ap, subst, ◌∙◌, arith}, Math.ListN.{get_or-map}}
use Rattle.abstract_state.specs.declared.value.Domain.{Domain}
use Rattle.abstract_state.specs.declared.value.Domain.TheVariants as domain
use Rattle.abstract_state.specs.{declared.table.ValueSet.{ValueSet}, Tables.{empty_set}}
use Rattle.numbered_sets.specs.{Pools.{Values, no_values}, Numbers.{numbers}}
use Rattle.numbered_sets.proofs.NumberingLaws.{AreNumberedUpTo, none_numbered_yet, as_many_sets, domain_there, numbered_next, longer_onward, numbered_known, numbered_plain, same_domain}
use Rattle.numbered_sets.proofs.numbered_form.numbered.Goals as goal

pub numbered_set-requires-clause-domain : goal.numbered_set-requires-clause-domain
numbered_set-requires-clause-domain c =
    let place = c.loop-component.component in
    sym (ap (λ (s : ValueSet). s.domain) (c.at.ensures.item empty_set))
    ∙ sym (get_or-map (λ (s : ValueSet). s.domain) c.args.entry.now.sets place empty_set)
    ∙ ap (λ (ds : List Domain). get_or ds place domain.Alarm) c.requires.domains
    ∙ get_or-map (λ (x : Values). x.domain) c.args.pool.now place (no_values domain.Alarm)
    ∙ sym (same_domain c.args.pool.now c.loop-component.pool place c.loop-component.invariant.longer)

pub loop-component-init : goal.loop-component-init
loop-component-init c =
    none_numbered_yet c.args.pool.now c.args.entry.now c.in_ok-numbered.numbered.sets
    (c.in_ok-numbered.ensures ∙ ap (map (λ (d : Domain). numbers d 0)) (c.as_slice.ensures.value ∙ c.in_ok-domains.ensures))

pub put-requires-clause-known : goal.put-requires-clause-known
put-requires-clause-known c =
    let many = as_many_sets c.loop-component.numbered.sets c.args.entry.now c.loop-component.invariant.domains in
    omega (arith, many, c.loop-component-test.true, c.len-component-end.ensures)

pub put-requires-clause-alike : goal.put-requires-clause-alike
put-requires-clause-alike c =
    domain_there c.loop-component.numbered.sets c.args.entry.now c.loop-component.invariant.domains c.loop-component.component
    ∙ ap (λ (s : ValueSet). s.domain) (c.at.ensures.item empty_set) ∙ sym c.in_ok-set.ensures.set.domain

pub returns-in_err-put-clause-pool : goal.returns-in_err-put-clause-pool
returns-in_err-put-clause-pool c = longer_onward c.args.pool.now c.loop-component.pool c.numbered_set.new.pool c.loop-component.invariant.longer c.in_ok-set.ensures.pool

pub loop-component-preserved : goal.loop-component-preserved
loop-component-preserved c =
    let place = c.loop-component.component in
    let many = as_many_sets c.loop-component.numbered.sets c.args.entry.now c.loop-component.invariant.domains in
    let known : place < length c.loop-component.numbered.sets = omega (arith, many, c.loop-component-test.true, c.len-component-end.ensures) in
    let next = numbered_next c.args.pool.now c.args.entry.now place c.loop-component.pool c.numbered_set.new.pool c.loop-component.numbered.sets c.at.result.now c.in_ok-set.set known c.loop-component.invariant
    c.in_ok-set.ensures.pool (c.at.ensures.item empty_set) c.in_ok-set.ensures.set in
    subst (AreNumberedUpTo c.args.pool.now c.args.entry.now (place + 1) c.numbered_set.new.pool) (sym c.in_ok-put.ensures.sets) next

pub returns-clause-numbers : goal.returns-clause-numbers
returns-clause-numbers c =
    numbered_known c.args.pool.now c.args.entry.now c.loop-component.pool c.loop-component.numbered c.loop-component.component
    (omega (arith, c.loop-component-test.false, c.loop-component.auto.component-end, c.len-component-end.ensures)) c.requires.domains c.loop-component.invariant

pub returns-clause-plain : goal.returns-clause-plain
returns-clause-plain c =
    numbered_plain c.args.pool.now c.args.entry.now c.loop-component.pool c.loop-component.numbered c.loop-component.component
    (omega (arith, c.loop-component-test.false, c.loop-component.auto.component-end, c.len-component-end.ensures)) c.requires.domains c.loop-component.invariant
