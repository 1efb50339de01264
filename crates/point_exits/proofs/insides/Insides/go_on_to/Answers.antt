use Rattle.std.proofs.Common.{ℕ, List, ◌<◌, ◌∷◌, ◌++◌, [], ◌∙◌, length, refl, sym, ap, subst, arith}
use Rattle.std.proofs.lemmas.List.{length-append}
use Rattle.point_exits.specs.{declared.insides.Insides.{Insides}, Levels.{AreInside}}
use Rattle.point_exits.proofs.InsideLevels.{inside_itself}
use Rattle.point_exits.proofs.insides.Insides.go_on_to.Goals as goal

pub loop-number-init : goal.loop-number-init
loop-number-init c = record {
  count = sym c.len-number.ensures;
  few = omega (arith, c.len-number.ensures);
  task = refl;
  insides = λ vs size h already. h;
}

pub loop-number-preserved : goal.loop-number-preserved
loop-number-preserved c =
    let x = c.loop-number.self in
    let inv = c.loop-number.invariant in
    let y : Insides = record { task = x.task; numbers = c.push.new.self } in
    record {
      count = omega (arith, ap length c.in_ok-push.ensures.ok, length-append x.numbers (c.loop-number.number ∷ []), inv.count);
      few = omega (arith, inv.few);
      task = inv.task;
      insides = λ vs size h already.
          (let lt : length x.numbers < length vs = omega (arith, inv.count, c.loop-number-test.true, size) in
          inside_itself vs x y (inv.insides vs size h already) lt (λ n v past is. already n v (omega (arith, inv.few, inv.count, past)) is)
          (c.in_ok-push.ensures.ok ∙ ap (λ k. x.numbers ++ k ∷ []) (sym inv.count)));
    }

pub returns-clause-insides : goal.returns-clause-insides
returns-clause-insides c = c.loop-number.invariant.insides

pub returns-in_err-push-clause-insides : goal.returns-in_err-push-clause-insides
returns-in_err-push-clause-insides c = λ vs size h already.
    let x = c.loop-number.self in
    subst (λ (ns : List ℕ). AreInside vs (record x { numbers = ns })) (sym c.in_err-push.ensures.err) (c.loop-number.invariant.insides vs size h already)
