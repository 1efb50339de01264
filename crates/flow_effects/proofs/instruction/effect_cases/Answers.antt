-- at the point of the runner
use Rattle.std.proofs.Common.{◌≡◌, Bool, List, sym, subst, ◌∙◌}
use Rattle.std.specs.{Prelude.{IfOk}, declared.result.Result.{Result}}
use Rattle.std.proofs.lemmas.Result.{IfOk-weaker}
use Rattle.osek_values.specs.declared.memory.Memory.{Memory}
use Rattle.osek_standard.specs.declared.{app.App.{App}, point.Point.{Point}}
use Rattle.abstract_state.specs.{declared.table.PlainEntry.{PlainEntry}, Domains.{domains, domains_of}}
use Rattle.flow_model.specs.{declared.case.EffectCase.{EffectCase}, Effects.{AreAllAllowed, CoverEffects, AreExactEffects, HaveKnownStays}}
use Rattle.flow_effects.specs.Outs.{AreOutIn, AreCasesWith}
use Rattle.flow_effects.proofs.instruction.effect_cases.Goals as goal

module _ (app : App) (outs : List Bool) (p q : Point) (result : Result (List EffectCase) Memory) (is : p ≡ q) (cases : IfOk result (AreCasesWith app outs q)) where
  there : IfOk result (AreCasesWith app outs p)
  there = subst (λ (x : Point). IfOk result (AreCasesWith app outs x)) (sym is) cases

  covering : IfOk result (λ (xs : List EffectCase). (entry : PlainEntry) → domains entry ≡ domains_of app → AreOutIn app outs entry → CoverEffects app p entry xs)
  covering = IfOk-weaker result (AreCasesWith app outs p) _ (λ xs h entry same out. h.covering entry out) there

  exact : IfOk result (λ (xs : List EffectCase). (entry : PlainEntry) → domains entry ≡ domains_of app → AreAllAllowed app p entry → AreExactEffects app p entry xs)
  exact = IfOk-weaker result (AreCasesWith app outs p) _ (λ xs h entry same. h.exact entry) there

  stays : IfOk result (HaveKnownStays app)
  stays = IfOk-weaker result (AreCasesWith app outs p) _ (λ xs h. h.stays) there

pub returns-in-Task-clause-covering : goal.returns-in-Task-clause-covering
returns-in-Task-clause-covering c = covering c.args.app.now c.args.outs.now c.args.point _ c.block_cases.result c.in-Task.is c.block_cases.ensures

pub returns-in-Task-clause-exact : goal.returns-in-Task-clause-exact
returns-in-Task-clause-exact c = exact c.args.app.now c.args.outs.now c.args.point _ c.block_cases.result c.in-Task.is c.block_cases.ensures

pub returns-in-Task-clause-stays : goal.returns-in-Task-clause-stays
returns-in-Task-clause-stays c = stays c.args.app.now c.args.outs.now c.args.point _ c.block_cases.result c.in-Task.is c.block_cases.ensures

pub returns-in-Routine-clause-covering : goal.returns-in-Routine-clause-covering
returns-in-Routine-clause-covering c = covering c.args.app.now c.args.outs.now c.args.point _ c.block_cases-in-Routine.result (c.in-Routine.is ∙ sym c.routine_of.ensures.point) c.block_cases-in-Routine.ensures

pub returns-in-Routine-clause-exact : goal.returns-in-Routine-clause-exact
returns-in-Routine-clause-exact c = exact c.args.app.now c.args.outs.now c.args.point _ c.block_cases-in-Routine.result (c.in-Routine.is ∙ sym c.routine_of.ensures.point) c.block_cases-in-Routine.ensures

pub returns-in-Routine-clause-stays : goal.returns-in-Routine-clause-stays
returns-in-Routine-clause-stays c = stays c.args.app.now c.args.outs.now c.args.point _ c.block_cases-in-Routine.result (c.in-Routine.is ∙ sym c.routine_of.ensures.point) c.block_cases-in-Routine.ensures
