use Rattle.std.proofs.Common.{◌+◌, List, sym, subst, ap, arith}
use Rattle.abstract_state.specs.declared.table.{ValueSet.{ValueSet}, PlainEntry.{PlainEntry}}
use Rattle.numbered_sets.proofs.PlainLaws.{AreFirstPlain, plain_next, all_plain}
use Rattle.numbered_sets.proofs.plain_form.plain.Goals as goal

pub loop-component-preserved : goal.loop-component-preserved
loop-component-preserved c =
    let next = plain_next c.args.pool.now c.args.entry.now c.loop-component.component c.loop-component.sets c.in_ok-numbers.numbers c.in_ok-set.set c.loop-component.invariant (sym c.in_ok-numbers.ensures) c.in_ok-set.ensures in
    let h = c.in_ok-push.ensures.ok in
    subst (AreFirstPlain c.args.pool.now c.args.entry.now (c.loop-component.component + 1)) (sym h) next

pub returns : goal.returns
returns c =
    let sets = all_plain c.args.pool.now c.args.entry.now c.loop-component.component c.loop-component.sets (omega (arith, c.loop-component-test.false, c.loop-component.auto.component-end, c.len-component-end.ensures)) c.loop-component.invariant in
    ap (λ (xs : List ValueSet). of xs) sets
  where
    of : List ValueSet → PlainEntry
    of xs = record { sets = xs }
