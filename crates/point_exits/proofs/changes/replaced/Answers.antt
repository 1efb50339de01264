use Rattle.std.proofs.{Common.{◌≡◌, sym, ap, subst, ◌∙◌}, lemmas.Bool.{eqb-true}}
use Rattle.abstract_state.specs.{declared.value.{Domain.{Domain}, PartValue.{PartValue}}, Domains.{IsWithin}}
use Rattle.flow_model.specs.Tests.{value_after}
use Rattle.numbered_sets.specs.{Numbers.{Numbers, numbers, with_number}, Pools.{values_at, domain_at, IsLonger}}
use Rattle.numbered_sets.proofs.{SiftLaws.{some_value}, ViewLaws.{longer_with}}
use Rattle.point_exits.specs.{Applying.{IsPassedSet}, Changing.{making}}
use Rattle.point_exits.proofs.SetValues.{none_passed, set_passed, some_left}
use Rattle.point_exits.proofs.changes.replaced.Goals as goal

pub returns-then-is_empty-clause-passed : goal.returns-then-is_empty-clause-passed
returns-then-is_empty-clause-passed c = λ changes becomes.
    let old = c.args.numbers.now in
    subst (IsPassedSet (making changes) c.args.pool.now c.args.component old c.args.pool.now) (sym (c.new-new.ensures ∙ ap (λ (d : Domain). numbers d 0) c.domain.ensures))
    (none_passed changes c.args.pool.now c.args.component old (eqb-true old.bits 0 (sym c.is_empty.ensures ∙ c.if-is_empty.true)))

pub number-requires-clause-within : goal.number-requires-clause-within
number-requires-clause-within c =
    let pool = c.args.pool.now in
    let k = c.args.component in
    let some = some_value (values_at pool k) c.args.numbers.now c.requires.listed (some_left c.args.numbers.now (sym c.is_empty.ensures ∙ c.if-is_empty.false)) in
    subst (IsWithin (domain_at pool k)) (sym c.copy.ensures) (c.requires.within some.0 some.1)

pub returns-in_err-put-clause-pool : goal.returns-in_err-put-clause-pool
returns-in_err-put-clause-pool c = subst (IsLonger c.args.pool.now) (sym c.in_ok-number.ensures.pool) (longer_with c.args.pool.now c.args.component c.copy.result c.requires.known)

pub returns-clause-pool : goal.returns-clause-pool
returns-clause-pool c = subst (IsLonger c.args.pool.now) (sym c.in_ok-number.ensures.pool) (longer_with c.args.pool.now c.args.component c.copy.result c.requires.known)

pub returns-clause-passed : goal.returns-clause-passed
returns-clause-passed c = λ changes becomes.
    let pool = c.args.pool.now in
    let k = c.args.component in
    let old = c.args.numbers.now in
    let n = c.in_ok-number.number in
    let some = some_value (values_at pool k) old c.requires.listed (some_left old (sym c.is_empty.ensures ∙ c.if-is_empty.false)) in
    let sets : (w : PartValue) → value_after changes k w ≡ c.copy.result = λ w. (becomes w ∙ sym c.copy.ensures) in
    let new : c.put.new.self ≡ with_number (numbers old.domain 0) n = c.in_ok-put.ensures.set ∙ ap (λ (x : Numbers). with_number x n) (c.new-new.ensures ∙ ap (λ (d : Domain). numbers d 0) c.domain.ensures) in
    subst (IsPassedSet (making changes) pool k old c.number.new.self) (sym new) (set_passed changes pool k old c.number.new.self n c.copy.result sets some.0 some.1 c.in_ok-number.ensures.number)
