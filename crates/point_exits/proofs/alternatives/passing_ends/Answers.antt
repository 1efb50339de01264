use Rattle.std.proofs.Common.{◌≤◌, List, length, take, refl, sym, ap, subst, ◌∙◌, arith}
use Rattle.std.specs.Prelude.{Contains}
use Rattle.std.proofs.lemmas.Bool.{eqb-true}
use Rattle.flow_model.specs.declared.test.Condition.{Condition}
use Rattle.numbered_sets.specs.Pools.{Values}
use Rattle.point_exits.specs.Alternatives.{IsSiftedFor, ArePassingEnds}
use Rattle.point_exits.proofs.{BlockLaws.{pool_has}, SetValues.{some_left}, PassingEnds.{sifted_for, no_condition, end_more, no_end, all_asked}}
use Rattle.point_exits.proofs.alternatives.passing_ends.Goals as goal
use Rattle.point_exits.proofs.alternatives.passing_ends.Goals.{then-not-is_empty+in_ok-push, else-not-is_empty}

pub loop-condition-init : goal.loop-condition-init
loop-condition-init c = record {
  pool = refl;
  ends = no_condition c.args.pool.now c.args.before.now c.args.target c.as_slice-condition-items.result.now c.in_ok-ends.ends.items c.in_ok-ends.ensures.items;
}

pub passing-requires-clause-known : goal.passing-requires-clause-known
passing-requires-clause-known c =
    let y = c.condition-item.result in
    let listed : Contains c.args.conditions.now y =
    subst (λ (ys : List Condition). Contains ys y) c.as_slice-condition-items.ensures (c.loop-condition.condition-index, c.loop-condition-test.true, sym c.condition-item.is) in
    let there = pool_has c.args.pool.now c.args.before.now y.component.0 c.index-component.result c.requires.numbers (c.requires.known y listed) c.index-component.ensures in
    omega (arith, there, ap (λ (q : List Values). length q) c.loop-condition.invariant.pool)

pub passing-requires-clause-set : goal.passing-requires-clause-set
passing-requires-clause-set c =
    let y = c.condition-item.result in
    let listed : Contains c.args.conditions.now y =
    subst (λ (ys : List Condition). Contains ys y) c.as_slice-condition-items.ensures (c.loop-condition.condition-index, c.loop-condition-test.true, sym c.condition-item.is) in
    let lt = c.requires.known y listed in
    omega (arith, lt, c.index-component.ensures)

pub returns-in_err-numbers-clause-same : goal.returns-in_err-numbers-clause-same
returns-in_err-numbers-clause-same c = c.passing.ensures.same ∙ c.loop-condition.invariant.pool

pub returns-in_err-push-clause-same : goal.returns-in_err-push-clause-same
returns-in_err-push-clause-same c = c.passing.ensures.same ∙ c.loop-condition.invariant.pool

pub loop-condition-preserved : goal.loop-condition-preserved
loop-condition-preserved c =
    let pool = c.args.pool.now in
    let entry = c.args.before.now in
    let inv = c.loop-condition.invariant in
    let y = c.condition-item.result in
    let i = c.loop-condition.condition-index in
    let k = c.index-component.result in
    let items = c.as_slice-condition-items.result.now in
    let n = c.in_ok-numbers.numbers in
    let p = c.args.target in
    let sifted : IsSiftedFor pool entry y n =
    sifted_for pool c.loop-condition.pool entry entry y k n n inv.pool refl c.index-component.ensures refl c.in_ok-numbers.ensures.passing in
    record {
      pool = c.passing.ensures.same ∙ inv.pool;
      ends = elim c.if-not-is_empty.branch [
        | then-not-is_empty+in_ok-push w ↦
            end_more pool entry p items i y c.loop-condition-test.true (sym c.condition-item.is) c.loop-condition.ends.items inv.ends
            (record { component = k; numbers = n; target = p }) c.if-not-is_empty.ends.items ((λ j. (w.ends-is j).items) ∙ w.in_ok-push.ensures.items)
            (record {
              component = c.index-component.ensures;
              target = refl;
              sifted = sifted;
              some = some_left n (sym c.is_empty.ensures ∙ w.if-not-is_empty.true);
            })
        | else-not-is_empty w ↦
            no_end pool entry p items i y c.loop-condition-test.true (sym c.condition-item.is) c.loop-condition.ends.items inv.ends c.if-not-is_empty.ends.items (λ j. (w.ends-is j).items)
            (record { numbers = n; sifted = sifted; none = eqb-true n.bits 0 (sym c.is_empty.ensures ∙ w.if-not-is_empty.false) })
      ];
    }

pub returns-clause-same : goal.returns-clause-same
returns-clause-same c = c.loop-condition.invariant.pool

pub returns-clause-ends : goal.returns-clause-ends
returns-clause-ends c =
    let items = c.as_slice-condition-items.result.now in
    let past : length c.args.conditions.now ≤ c.loop-condition.condition-index = (let e = ap (λ (ys : List Condition). length ys) c.as_slice-condition-items.ensures in omega (arith, e, c.loop-condition-test.false)) in
    subst (ArePassingEnds c.args.pool.now c.args.before.now c.args.conditions.now c.args.target) (sym c.of.ensures)
    (all_asked c.args.pool.now c.args.before.now c.args.target c.args.conditions.now c.loop-condition.condition-index c.loop-condition.ends.items past
    (subst (λ (ys : List Condition). ArePassingEnds c.args.pool.now c.args.before.now (take c.loop-condition.condition-index ys) c.args.target c.loop-condition.ends.items)
    c.as_slice-condition-items.ensures c.loop-condition.invariant.ends))
