use Rattle.std.proofs.Common.{◌≤◌, List, ◌++◌, ◌∷◌, [], map, sym, ◌∙◌, arith}
use Rattle.std.specs.Prelude.{codes, filter}
use Rattle.oil_tree.specs.declared.tree.Object.{Object}
use Rattle.oil_system.specs.declared.system.CounterObject.{CounterObject}
use Rattle.oil_tree.specs.AttrLists.{attr_list}
use Rattle.oil_model.specs.Objects.{is_kind, maximum, minimum}
use Rattle.oil_model.proofs.{Clean.{at_passing}, Facts.{IsMaximum, maxima, minima}}
use Rattle.oil_model.specs.Systems.{counter}
use Rattle.oil_model.proofs.Collected.{collects, passes_over, collected}
use Rattle.oil_model.proofs.alarms.counters.Goals as goal
use Rattle.oil_model.proofs.alarms.counters.Goals.{then-is_kind+in_ok-counter+in_ok-push, else-is_kind}

pub counter-requires-clause-max : goal.counter-requires-clause-max
counter-requires-clause-max c = (at_passing (λ (o : Object). IsMaximum (attr_list o.attrs)) (is_kind (codes "COUNTER")) c.args.objects.now c.loop-object.object-index c.object-item.result (maxima c.args.objects.now c.requires.allowed) c.loop-object-test.true c.object-item.is (sym c.is_kind.ensures ∙ c.if-is_kind.true)).1

pub counter-requires-clause-min : goal.counter-requires-clause-min
counter-requires-clause-min c =
    let t = sym c.is_kind.ensures ∙ c.if-is_kind.true in
    let max = (at_passing (λ (o : Object). IsMaximum (attr_list o.attrs)) (is_kind (codes "COUNTER")) c.args.objects.now c.loop-object.object-index c.object-item.result (maxima c.args.objects.now c.requires.allowed) c.loop-object-test.true c.object-item.is t).1 in
    let min = at_passing (λ (o : Object). minimum (attr_list o.attrs) ≤ maximum (attr_list o.attrs)) (is_kind (codes "COUNTER")) c.args.objects.now c.loop-object.object-index c.object-item.result (minima c.args.objects.now c.requires.inside) c.loop-object-test.true c.object-item.is t in
    omega (arith, max, min)

pub loop-object-init : goal.loop-object-init
loop-object-init c = λ i. c.new-found.ensures.items i ++ map counter (filter (is_kind (codes "COUNTER")) c.args.objects.now)

pub loop-object-preserved : goal.loop-object-preserved
loop-object-preserved c =
    let before : List CounterObject = c.loop-object.found.items in
    elim c.if-is_kind.branch [
      | then-is_kind+in_ok-counter+in_ok-push w ↦ collects (is_kind (codes "COUNTER")) counter c.args.objects.now c.loop-object.object-index before c.loop-object.invariant c.object-item.result c.loop-object-test.true c.object-item.is (sym c.is_kind.ensures ∙ w.if-is_kind.true) ((λ i. (w.found-is i).items) ∙ w.in_ok-push.ensures.items ∙ (λ i. before ++ w.in_ok-counter.ensures i ∷ []))
      | else-is_kind w ↦ passes_over (is_kind (codes "COUNTER")) counter c.args.objects.now c.loop-object.object-index before c.loop-object.invariant c.object-item.result c.loop-object-test.true c.object-item.is (sym c.is_kind.ensures ∙ w.if-is_kind.false) (λ i. (w.found-is i).items)
    ]

pub returns : goal.returns
returns c = c.of.ensures ∙ collected (is_kind (codes "COUNTER")) counter c.args.objects.now c.loop-object.object-index c.loop-object.found.items c.loop-object.invariant c.loop-object-test.false
