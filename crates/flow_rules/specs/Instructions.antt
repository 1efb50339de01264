-- The rules of the instructions at a point come to others.
use Rattle.std.specs.Prelude.{List}
use Rattle.osek_standard.specs.declared.{app.App.{App}, point.Point.{Point}}
use Rattle.abstract_state.specs.declared.table.PlainEntry.{PlainEntry}
use Rattle.flow_model.specs.{declared.{case.EffectCase.{EffectCase}, rule.Rule.{Rule}}, Effects.{AreAllAllowed, HaveKnownStays, CoverEffects, AreExactEffects}}
use Rattle.flow_rules.specs.Assembly.{AreAllAdded}

pub record AddsInstructionRules (app : App) (p : Point) (entry : PlainEntry) (before after : List Rule) : Type 0 where
  pub effects : List EffectCase
  pub stays : HaveKnownStays app effects
  pub covering : CoverEffects app p entry effects
  pub exact : AreAllAllowed app p entry → AreExactEffects app p entry effects
  pub added : AreAllAdded app p entry effects before after
