use Rattle.std.proofs.Common.{◌≡◌, ◌<◌, ◌+◌, List, [], length, take, sym, ap, subst, ◌∙◌, arith}
use Rattle.abstract_state.specs.{declared.value.{Domain.{Domain}, PartValue.{PartValue}}, Domains.{IsWithin}}
use Rattle.flow_model.specs.Tests.{value_after}
use Rattle.numbered_sets.specs.{Numbers.{numbers, has_number}, Pools.{values_at}, Views.{values_with}}
use Rattle.numbered_sets.proofs.{MadeLaws.{one_value, value_there}, NumberingLaws.{as_long, same_domain}, PlainLaws.{member_of_plain, value_with_number}}
use Rattle.point_exits.specs.{Applying.{IsPassedSoFar}, Changing.{making}}
use Rattle.point_exits.proofs.NumbersPassing.{next_value, values_skip_to, passed_begun, passed_whole, number_on}
use Rattle.point_exits.proofs.changes.moved.Goals as goal

pub loop-number-init : goal.loop-number-init
loop-number-init c =
    let pool = c.args.pool.now in
    let place = c.args.component in
    let old = c.args.numbers.now in
    let values = values_at pool place in
    let begun = subst (IsPassedSoFar (making c.args.changes.now) pool place old.domain [] pool) (sym (c.new-new.ensures ∙ ap (λ (d : Domain). numbers d 0) c.domain.ensures)) (passed_begun (making c.args.changes.now) pool place old.domain) in (
      subst (λ (done : List PartValue). IsPassedSoFar (making c.args.changes.now) pool place old.domain done pool c.new-new.result)
          (sym (values_skip_to values (has_number old) 0 c.next-number.result (omega arith) (omega (arith, c.next-number.ensures.few, c.len-count.ensures)) c.next-number.ensures.none)) begun,
      c.next-number.ensures.few,
      c.next-number.ensures.has,
    )

pub put_updated-requires : goal.put_updated-requires
put_updated-requires c =
    let before = c.args.pool.now in
    let pool = c.loop-number.pool in
    let place = c.args.component in
    let longer = c.loop-number.invariant.0.longer in
    let known : c.loop-number.number < length (values_at before place) = omega (arith, c.loop-number-test.true, c.len-count.ensures) in
    let there = value_there (values_at before place) c.loop-number.number known in
    let here = number_on before pool place c.loop-number.number there.0 longer there.1 in
    record {
      known = omega (arith, c.requires.known, as_long before pool longer);
      listed = here.known;
      within = λ v is.
          (let same : there.0 ≡ v = one_value (values_at pool place) there.0 v c.loop-number.number here is in
          let member = member_of_plain (values_at before place) c.args.numbers.now v
          ∙ value_with_number (values_at before place) (has_number c.args.numbers.now) c.loop-number.number v known (there.1.is v ∙ same) (c.loop-number.invariant.2 c.loop-number-test.true) in
          subst (λ (d : Domain). IsWithin d (value_after c.args.changes.now place v)) (sym (same_domain before pool place longer)) (c.requires.within v member));
    }

pub loop-number-preserved : goal.loop-number-preserved
loop-number-preserved c =
    let before = c.args.pool.now in
    let place = c.args.component in
    let old = c.args.numbers.now in
    let number = c.loop-number.number in
    let values = values_at before place in
    let known : number < length values = omega (arith, c.loop-number-test.true, c.len-count.ensures) in
    let there = value_there values number known in
    let P : List PartValue → Type 0 = λ done. IsPassedSoFar (making c.args.changes.now) before place old.domain done c.put_updated.new.pool c.put_updated.new.new in
    let here = number_on before c.loop-number.pool place number there.0 c.loop-number.invariant.0.longer there.1 in
    let next = c.in_ok-put_updated.ensures.passed before old.domain (values_with (take number values) (has_number old)) there.0 here c.loop-number.invariant.0 in
    let more : P (values_with (take (number + 1) values) (has_number old)) = subst P (sym (next_value values (has_number old) number there.0 there.1 (c.loop-number.invariant.2 c.loop-number-test.true))) next in (
      subst P
          (sym (values_skip_to values (has_number old) (number + 1) c.next-number-in-loop-number.result c.next-number-in-loop-number.ensures.up
          (omega (arith, c.next-number-in-loop-number.ensures.few, c.len-count.ensures)) c.next-number-in-loop-number.ensures.none)) more,
      c.next-number-in-loop-number.ensures.few,
      c.next-number-in-loop-number.ensures.has,
    )

pub returns-clause-passed : goal.returns-clause-passed
returns-clause-passed c =
    passed_whole (making c.args.changes.now) c.args.pool.now c.args.component c.args.numbers.now c.loop-number.number c.loop-number.pool c.loop-number.new
    (omega (arith, c.loop-number-test.false, c.len-count.ensures)) c.loop-number.invariant.0
