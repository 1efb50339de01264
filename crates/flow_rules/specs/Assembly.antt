-- Rules out of the cases of an effect and of its outcome.
use Rattle.std.specs.Prelude.{◌≡◌, ◌⊎◌, ℕ, List, ◌++◌, Some, Contains}
use Rattle.osek_standard.specs.declared.{app.App.{App}, point.Point.{Point}}
use Rattle.abstract_state.specs.declared.{value.PartValue.{PartValue}, table.PlainEntry.{PlainEntry}}
use Rattle.flow_model.specs.declared.{case.{Decision.{Decision}, EffectCase.{EffectCase}, OutcomeCase.{OutcomeCase}}, rule.Rule.{Rule}}
use Rattle.flow_model.specs.{Tests.{PassesAll, values_after}, Scheduling.{AreValuesOf, Decides, HasOutcome, settling}}

-- the effect and then this outcome, by which who has the processor comes in
abbrev pub rule_of : App → EffectCase → OutcomeCase → Rule
rule_of app effect outcome = record {
  conditions = effect.conditions ++ outcome.conditions;
  changes = effect.changes ++ settling app effect.leaving.stay outcome.decision;
  target = outcome.target;
  decision = Some outcome.decision;
  status = effect.leaving.status;
}

-- the rule is that of an effect and an outcome which is right wherever both pass
pub record IsRuleOf (app : App) (p : Point) (entry : PlainEntry) (effect : EffectCase) (rule : Rule) : Type 0 where
  pub outcome : OutcomeCase
  pub is : rule ≡ rule_of app effect outcome
  pub exact : (value : ℕ → PartValue) → AreValuesOf app p entry value → PassesAll app effect.conditions value → PassesAll app outcome.conditions value → HasOutcome app effect outcome value

-- a rule of the effect is among these, whose outcome is the one decided
pub record HasRuleFor (app : App) (effect : EffectCase) (rules : List Rule) (d : Decision) (value : ℕ → PartValue) : Type 0 where
  pub outcome : OutcomeCase
  pub listed : Contains rules (rule_of app effect outcome)
  pub decision : outcome.decision ≡ d
  pub is : HasOutcome app effect outcome value

-- what the scheduler decides after the effect has a rule
abbrev pub HasRulesFor : App → Point → PlainEntry → EffectCase → List Rule → Type 0
HasRulesFor app p entry effect rules =
    (value : ℕ → PartValue) (d : Decision) → AreValuesOf app p entry value → PassesAll app effect.conditions value →
    Decides app (values_after effect.changes value) effect.leaving d → HasRuleFor app effect rules d value

-- the rules of an effect come to these
pub record AreAdded (app : App) (p : Point) (entry : PlainEntry) (effect : EffectCase) (before after : List Rule) : Type 0 where
  pub kept : (rule : Rule) → Contains before rule → Contains after rule
  pub each : (rule : Rule) → Contains after rule → Contains before rule ⊎ IsRuleOf app p entry effect rule
  pub some : HasRulesFor app p entry effect after

-- the rule is that of one of these effects
pub record IsRuleOfSome (app : App) (p : Point) (entry : PlainEntry) (effects : List EffectCase) (rule : Rule) : Type 0 where
  pub effect : EffectCase
  pub listed : Contains effects effect
  pub is : IsRuleOf app p entry effect rule

-- the rules of all these effects came to those that there were
pub record AreAllAdded (app : App) (p : Point) (entry : PlainEntry) (effects : List EffectCase) (before after : List Rule) : Type 0 where
  pub kept : (rule : Rule) → Contains before rule → Contains after rule
  pub each : (rule : Rule) → Contains after rule → Contains before rule ⊎ IsRuleOfSome app p entry effects rule
  pub some : (effect : EffectCase) → Contains effects effect → HasRulesFor app p entry effect after
