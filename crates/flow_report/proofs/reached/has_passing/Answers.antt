use Rattle.std.proofs.Common.{◌∙◌, sym, refl, arith}
use Rattle.numbered_sets.specs.{NumberedEntries.{numbers_at}, Pools.{values_at}}
use Rattle.flow_report.proofs.PassingNumbers.{none_first, none_next, passing_by_number, none_passing}
use Rattle.flow_report.proofs.reached.has_passing.Goals as goal

pub loop-number-init : goal.loop-number-init
loop-number-init c =
    let a = c.args in
    none_first (values_at a.pool.now a.component) a.test.now (numbers_at a.entry.now a.component) c.len-end.result c.next-number.result c.next-number.ensures.few c.next-number.ensures.has c.next-number.ensures.none

pub returns-then-passes : goal.returns-then-passes
returns-then-passes c =
    let a = c.args in
    (λ e. passing_by_number a.pool.now a.entry.now a.component a.test.now c.loop-number.number c.value.result (c.loop-number.invariant.there c.loop-number-test.true) c.value.ensures (sym c.passes.ensures ∙ c.if-passes.true), λ h. refl)

pub loop-number-preserved : goal.loop-number-preserved
loop-number-preserved c =
    let a = c.args in
    let next = c.next-number-in-loop-number in
    none_next (values_at a.pool.now a.component) a.test.now (numbers_at a.entry.now a.component) c.len-end.result c.loop-number.number next.result c.value.result c.loop-number.invariant c.value.ensures (sym c.passes.ensures ∙ c.if-passes.false)
    next.ensures.few next.ensures.has next.ensures.none

pub returns : goal.returns
returns c =
    let a = c.args in (
      λ e. absurd (cc),
      λ h. absurd (none_passing a.pool.now a.entry.now a.component a.test.now c.len-end.result c.loop-number.number c.loop-number.invariant (omega (arith, c.loop-number-test.false, c.len-end.ensures)) h),
    )
