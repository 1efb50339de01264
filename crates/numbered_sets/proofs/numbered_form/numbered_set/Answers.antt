use Rattle.std.proofs.Common.{◌<◌, ◌≤◌, ◌+◌, List, length, get_or, sym, ap, subst, ◌∙◌, arith}
use Rattle.std.specs.List.{All}
use Rattle.std.proofs.lemmas.List.Elements.{All-get_or}
use Rattle.abstract_state.specs.{declared.value.{Domain.{Domain}, PartValue.{PartValue}}, Domains.{IsWithin}}
use Rattle.numbered_sets.proofs.NumberingLaws.{IsNumberedUpTo, numbered_begun, numbered_more, numbered_whole, grows_on, as_long, same_domain}
use Rattle.numbered_sets.proofs.numbered_form.numbered_set.Goals as goal

pub loop-value-init : goal.loop-value-init
loop-value-init c =
    subst (IsNumberedUpTo c.args.pool.now c.args.component c.args.set.now.domain c.as_slice-value-items.result.now 0 c.args.pool.now) (sym c.new-numbers.ensures)
    (numbered_begun c.args.pool.now c.args.component c.args.set.now.domain c.as_slice-value-items.result.now)

pub number_of-requires-clause-within : goal.number_of-requires-clause-within
number_of-requires-clause-within c =
    let items = c.as_slice-value-items.result.now in
    let index = c.loop-value.value-index in
    let domain = c.args.set.now.domain in
    let all : All (IsWithin domain) items = subst (All (IsWithin domain)) (sym c.as_slice-value-items.ensures) c.requires.sound.within in
    let within : IsWithin domain (get_or items index c.value-item.result) = All-get_or (IsWithin domain) items index c.value-item.result c.loop-value-test.true all in
    subst (λ (d : Domain). IsWithin d c.value-item.result) (c.requires.domain ∙ sym (same_domain c.args.pool.now c.loop-value.pool c.args.component c.loop-value.invariant.longer))
    (subst (IsWithin domain) (sym c.value-item.is) within)

pub returns-in_err-insert-clause-pool : goal.returns-in_err-insert-clause-pool
returns-in_err-insert-clause-pool c =
    let items = c.as_slice-value-items.result.now in
    let index = c.loop-value.value-index in
    let at = sym c.value-item.is in
    let known : c.args.component < length c.loop-value.pool = omega (arith, c.requires.known, as_long c.args.pool.now c.loop-value.pool c.loop-value.invariant.longer) in
    grows_on c.args.pool.now c.args.component c.args.set.now.domain items index c.loop-value.pool c.loop-value.numbers c.value-item.result c.in_ok-number.number c.number_of.new.self
    c.loop-value.invariant c.loop-value-test.true at known c.in_ok-number.ensures.pool c.in_ok-number.ensures.number

pub loop-value-preserved : goal.loop-value-preserved
loop-value-preserved c =
    let items = c.as_slice-value-items.result.now in
    let index = c.loop-value.value-index in
    let at = sym c.value-item.is in
    let known : c.args.component < length c.loop-value.pool = omega (arith, c.requires.known, as_long c.args.pool.now c.loop-value.pool c.loop-value.invariant.longer) in
    subst (IsNumberedUpTo c.args.pool.now c.args.component c.args.set.now.domain items (index + 1) c.number_of.new.self) (sym c.in_ok-insert.ensures.set)
    (numbered_more c.args.pool.now c.args.component c.args.set.now.domain items index c.loop-value.pool c.loop-value.numbers c.value-item.result c.in_ok-number.number c.number_of.new.self
    c.loop-value.invariant c.loop-value-test.true at known c.in_ok-number.ensures.pool c.in_ok-number.ensures.number)

pub returns-clause-set : goal.returns-clause-set
returns-clause-set c =
    let items = c.as_slice-value-items.result.now in
    let so_far : IsNumberedUpTo c.args.pool.now c.args.component c.args.set.now.domain c.args.set.now.members c.loop-value.value-index c.loop-value.pool c.loop-value.numbers =
    subst (λ (vs : List PartValue). IsNumberedUpTo c.args.pool.now c.args.component c.args.set.now.domain vs c.loop-value.value-index c.loop-value.pool c.loop-value.numbers) c.as_slice-value-items.ensures c.loop-value.invariant in
    let whole : length c.args.set.now.members ≤ c.loop-value.value-index = omega (arith, c.loop-value-test.false, ap length c.as_slice-value-items.ensures) in
    numbered_whole c.args.pool.now c.args.component c.args.set.now c.loop-value.value-index c.loop-value.pool c.loop-value.numbers c.requires.sound whole so_far
