use Rattle.std.proofs.Common.{◌∙◌, [], ◌∷◌, ◌++◌, sym, ap}
use Rattle.flow_model.specs.declared.case.EffectCase.{EffectCase}
use Rattle.flow_services.proofs.ListLaws.{passed_after, failed_after}
use Rattle.flow_effects.specs.Returns.{may_be_in, nested_return}
use Rattle.flow_effects.proofs.returns.add_nested_returns.Goals as goal
use Rattle.flow_effects.proofs.returns.add_nested_returns.Goals.{then-may_be_in+in_ok-nested_return+in_ok-push, else-may_be_in}

pub loop-next-preserved : goal.loop-next-preserved
loop-next-preserved c =
    let ending = c.args.ending.now in
    let may_be = may_be_in c.args.outs.now ending.source in
    let made = nested_return c.args.app.now ending.source ending.component ending.over in
    let k = c.loop-next.next in
    elim c.if-may_be_in.branch [
      | then-may_be_in+in_ok-nested_return+in_ok-push w ↦
          w.cases-is ∙ w.in_ok-push.ensures.ok ∙ ap (λ (x : EffectCase). c.loop-next.cases ++ x ∷ []) w.in_ok-nested_return.ensures
          ∙ passed_after c.args.cases.now c.loop-next.cases may_be made k c.loop-next.invariant (sym c.may_be_in.ensures ∙ w.if-may_be_in.true)
      | else-may_be_in w ↦ w.cases-is ∙ failed_after c.args.cases.now c.loop-next.cases may_be made k c.loop-next.invariant (sym c.may_be_in.ensures ∙ w.if-may_be_in.false)
    ]
