use Rattle.std.proofs.Common.{◌≡◌, ◌<◌, ◌≤◌, ◌∙◌, length, get_or, subst, sym, arith}
use Rattle.std.proofs.lemmas.{Bool.{eqb-true}, List.{get_or_default}}
use Rattle.point_exits.specs.{declared.group.ExitGroup.{ExitGroup}, Settling.{IsSettledGroup}}
use Rattle.point_exits.proofs.SettlingSteps.{none_goes, nobody_goes, settling_begun, settling_next, settling_ended}
use Rattle.point_exits.proofs.settled.Settling.settle.Goals as goal

pub returns-then-is_empty : goal.returns-then-is_empty
returns-then-is_empty c =
    let x = c.args.self.now in
    let insides = x.levels.now.insides in
    let none : length insides ≡ 0 = eqb-true (length insides) 0 (sym c.is_empty.ensures ∙ c.if-is_empty.true) in
    nobody_goes x.app.now x.pool.now x.stay c.args.from c.args.groups.now.items
    (λ d. none_goes x.app.now x.stay d insides x.all.are.insides.tasks (λ i e lt. absurd (omega (arith, lt, none))))

pub loop-place-init : goal.loop-place-init
loop-place-init c = (let x = c.args.self.now in record { from = omega arith; done = settling_begun x.app.now x.pool.now x.stay c.args.from c.args.groups.now.items })

pub settle_group-requires : goal.settle_group-requires
settle_group-requires c =
    let k = c.loop-place.place in
    let item = c.index_mut.result.now in
    let before = c.args.groups.now.items in
    let lt : k < length before = omega (arith, c.loop-place-test.true, c.len-place-end.ensures, c.args.groups.now.ok.0) in
    c.requires item (k, lt, sym (c.index_mut.ensures.value ∙ c.loop-place.invariant.done.later k item (omega arith)))

pub loop-place-preserved : goal.loop-place-preserved
loop-place-preserved c =
    let x = c.args.self.now in
    let k = c.loop-place.place in
    let inv = c.loop-place.invariant in
    let item = c.index_mut.result.now in
    let y = c.settle_group.new.group in
    let before = c.args.groups.now.items in
    let lt : k < length before = omega (arith, c.loop-place-test.true, c.len-place-end.ensures, c.args.groups.now.ok.0) in
    let is : item ≡ get_or before k y = c.index_mut.ensures.value ∙ inv.done.later k item (omega arith) ∙ get_or_default before k item y lt in
    record {
      from = omega (arith, inv.from);
      done = settling_next x.app.now x.pool.now x.stay c.args.from before k c.loop-place.groups.items y inv.from lt inv.done
          (subst (λ (g : ExitGroup). IsSettledGroup x.app.now x.pool.now x.stay g y) is c.in_ok-settle_group.ensures);
    }

pub returns : goal.returns
returns c =
    let x = c.args.self.now in
    let before = c.args.groups.now.items in
    let past : length before ≤ c.loop-place.place = omega (arith, c.loop-place-test.false, c.len-place-end.ensures, c.args.groups.now.ok.0) in
    settling_ended x.app.now x.pool.now x.stay c.args.from before c.loop-place.place c.loop-place.groups.items past c.loop-place.invariant.done
