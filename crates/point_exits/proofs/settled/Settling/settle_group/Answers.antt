use Rattle.std.proofs.Common.{◌≡◌, ◌∙◌, ℕ, Bool, true, length, sym, ap, subst}
use Rattle.std.specs.declared.option.Option.{Option}
use Rattle.std.proofs.lemmas.Result.{on_ok_weaker}
use Rattle.flow_model.specs.{declared.case.Decision.{Decision}, Scheduling.{goes_inside}}
use Rattle.numbered_sets.specs.Pools.{values_at}
use Rattle.point_exits.specs.{declared.insides.Insides.{Insides}, Levels.{AreInside}, Settling.{IsSettledBy, IsSettledFor}}
use Rattle.point_exits.proofs.SettlingSteps.{goes_alone}
use Rattle.point_exits.proofs.settled.Settling.settle_group.Goals as goal

pub returns-in-Some-entering : goal.returns-in-Some-entering
returns-in-Some-entering c =
    let x = c.args.self.now in
    let app = x.app.now in
    let pool = x.pool.now in
    let d = c.in-Some.decision in
    let y = c.at.result.now in
    let old = c.args.group.now in
    let new = c.settle.new.group in
    let place = c.in-Some-entering.place in
    let is = c.at.ensures.item y in
    let goes : goes_inside app x.stay d y.task.0 ≡ true = ap (λ (z : Insides). goes_inside app x.stay d z.task.0) (sym is) ∙ c.in-Some-entering.ensures.goes y in
    let inside : AreInside (values_at pool y.task.0) y = subst (λ (z : Insides). AreInside (values_at pool z.task.0) z) is (x.all.are.insides.each place y c.in-Some-entering.ensures.known) in
    let all : length y.numbers ≡ length (values_at pool y.task.0) = subst (λ (z : Insides). length z.numbers ≡ length (values_at pool z.task.0)) is (x.all.inside place y c.in-Some-entering.ensures.known) in
    on_ok_weaker c.settle.result
    (λ settled. subst (λ (o : Option Decision). IsSettledFor app pool x.stay o old new) (sym c.in-Some.is)
    (subst (λ (f : ℕ → Bool). IsSettledBy f pool old new) (sym (goes_alone app x.stay d y.task.0 goes)) (settled pool inside (sym all)))) c.settle.ensures
