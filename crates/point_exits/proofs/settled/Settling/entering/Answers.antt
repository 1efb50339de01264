use Rattle.std.proofs.Common.{◌<◌, ◌∙◌, length, get_or, sym, ap, inl, inr, arith}
use Rattle.std.proofs.lemmas.Bool.{cases_eq}
use Rattle.flow_model.specs.Scheduling.{has_it_after}
use Rattle.point_exits.specs.declared.insides.Insides.{Insides}
use Rattle.point_exits.proofs.SettlingSteps.{task_listed, none_goes}
use Rattle.point_exits.proofs.settled.Settling.entering.Goals as goal

pub has_it_after-requires : goal.has_it_after-requires
has_it_after-requires c =
    let insides = c.args.self.now.levels.now.insides in
    let lt : c.loop-place.place < length insides = omega (arith, c.loop-place-test.true, c.len-place-end.ensures) in
    (c.args.self.now.all.are.insides.tasks.each c.at.result.now.task (task_listed insides c.loop-place.place c.at.result.now lt c.at.ensures.item)).0

pub loop-place-preserved : goal.loop-place-preserved
loop-place-preserved c =
    let x = c.args.self.now in
    λ i e lt. elim (cases_eq i c.loop-place.place) [
      | inl same ↦ ap (λ k. has_it_after x.app.now x.stay c.args.decision (get_or x.levels.now.insides k e).task.0) same
          ∙ ap (λ (y : Insides). has_it_after x.app.now x.stay c.args.decision y.task.0) (c.at.ensures.item e)
          ∙ sym c.has_it_after.ensures
          ∙ c.if-has_it_after.false
      | inr other ↦ c.loop-place.invariant i e (omega (arith, lt, other))
    ]

pub returns-clause-none : goal.returns-clause-none
returns-clause-none c =
    let x = c.args.self.now in
    none_goes x.app.now x.stay c.args.decision x.levels.now.insides x.all.are.insides.tasks
    (λ i e lt. c.loop-place.invariant i e (omega (arith, lt, c.loop-place-test.false, c.len-place-end.ensures)))
