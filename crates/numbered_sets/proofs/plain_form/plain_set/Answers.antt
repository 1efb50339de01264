use Rattle.std.proofs.Common.{◌<◌, ◌+◌, length, ap, ◌∙◌, arith}
use Rattle.abstract_state.specs.Tables.{empty_of}
use Rattle.numbered_sets.specs.Pools.{values_at}
use Rattle.numbered_sets.proofs.PlainLaws.{plain_begun, plain_put, plain_whole, plain_skip_to}
use Rattle.numbered_sets.proofs.plain_form.plain_set.Goals as goal

pub loop-number-init : goal.loop-number-init
loop-number-init c =
    let values = values_at c.args.pool.now c.args.component in
    let numbers = c.args.numbers.now in (
      plain_skip_to values numbers 0 c.new-set.result c.next-number.result (omega arith) (omega (arith, c.next-number.ensures.few, c.len-count.ensures))
          (plain_begun values numbers c.new-set.result (c.new-set.ensures.empty ∙ ap empty_of c.domain.ensures)) c.next-number.ensures.none,
      c.next-number.ensures.few,
      c.next-number.ensures.has,
    )

pub loop-number-preserved : goal.loop-number-preserved
loop-number-preserved c =
    let values = values_at c.args.pool.now c.args.component in
    let numbers = c.args.numbers.now in
    let number = c.loop-number.number in
    let known : number < length values = omega (arith, c.loop-number-test.true, c.len-count.ensures) in
    let put = plain_put values numbers number c.loop-number.set c.insert.new.self c.value.result known (c.value.ensures.is c.value.result) c.loop-number.invariant.0
    (c.loop-number.invariant.2 c.loop-number-test.true) c.in_ok-insert.ensures.domain c.in_ok-insert.ensures.ascending c.in_ok-insert.ensures.members in (
      plain_skip_to values numbers (number + 1) c.insert.new.self c.next-number-in-loop-number.result c.next-number-in-loop-number.ensures.up
          (omega (arith, c.next-number-in-loop-number.ensures.few, c.len-count.ensures)) put c.next-number-in-loop-number.ensures.none,
      c.next-number-in-loop-number.ensures.few,
      c.next-number-in-loop-number.ensures.has,
    )

pub returns : goal.returns
returns c =
    plain_whole (values_at c.args.pool.now c.args.component) c.args.numbers.now c.loop-number.number c.loop-number.set
    (omega (arith, c.loop-number-test.false, c.len-count.ensures)) c.loop-number.invariant.0
