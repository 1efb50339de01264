-- the line of one body more
use Rattle.std.proofs.Common.{◌+◌, List, [], ◌∷◌, map, drop, sym, ap, ◌∙◌}
use Rattle.task_code.specs.declared.tree.Body.{Body}
use Rattle.oil_model.specs.Lines.{sooner, least}
use Rattle.oil_model.proofs.{Leasts.{sooner_assoc}, Repeats.{filter_yes, filter_not}}
use Rattle.block_graph.specs.Rules.{is_stray, line_of_body, stray_code}
use Rattle.block_graph.proofs.owners.stray_code.Goals as goal
use Rattle.block_graph.proofs.owners.stray_code.Goals.{then-is_stray, else-is_stray}

pub loop-body-preserved : goal.loop-body-preserved
loop-body-preserved c =
    let x : Body = c.body-item.result in
    let rest = stray_code c.args.system.now (drop (c.loop-body.body-index + 1) c.args.bodies.now) in
    let all = λ (xs : List Body). sooner c.loop-body.best (least (map line_of_body xs)) in
    elim c.if-is_stray.branch [
      | then-is_stray w ↦
          let passes = filter_yes (is_stray c.args.system.now) c.args.bodies.now c.loop-body.body-index x c.loop-body-test.true c.body-item.is (sym c.is_stray.ensures ∙ w.if-is_stray.true) in
          (λ i. sooner ((w.best-is ∙ w.sooner-best.ensures) i) (least rest)) ∙ sym (sooner_assoc c.loop-body.best (least (x.line ∷ [])) (least rest)) ∙ sym (ap all passes) ∙ c.loop-body.invariant
      | else-is_stray w ↦
          let passes = filter_not (is_stray c.args.system.now) c.args.bodies.now c.loop-body.body-index x c.loop-body-test.true c.body-item.is (sym c.is_stray.ensures ∙ w.if-is_stray.false) in
          (λ i. sooner (w.best-is i) (least rest)) ∙ sym (ap all passes) ∙ c.loop-body.invariant
    ]
