-- Rules out of the exits of an effect.
use Rattle.std.specs.{Prelude.{◌≡◌, ℕ, List, [], ◌∷◌, ◌++◌, map, if◌then◌else◌, Some, None, Contains}, List.{flat_map}, declared.option.Option.{Option}}
use Rattle.osek_standard.specs.declared.app.App.{App}
use Rattle.abstract_state.specs.declared.{value.{Component.{Component}, ComponentNo.{ComponentNo}, PartValue.{PartValue}}, table.{ValueSet.{ValueSet}, PlainEntry.{PlainEntry}}}
use Rattle.abstract_state.specs.{Components.{components, component_number, component_no}, Tables.{set_at, is_member}}
use Rattle.flow_model.specs.declared.{case.{Decision.{Decision}, EffectCase.{EffectCase}, OutcomeCase.{OutcomeCase}}, change.Change.{Change}, rule.Rule.{Rule}, test.Condition.{Condition}}
use Rattle.flow_model.specs.declared.test.Test.TheVariants as test
use Rattle.flow_model.specs.{Tests.{PassesAll, value_after, values_after}, Effects.{AreIn}, Scheduling.{Decides}}
use Rattle.flow_exits.specs.declared.exit.Exit.{Exit}
use Rattle.flow_rules.specs.Assembly.{rule_of}
use Rattle.point_exits.specs.Deciding.{IsUnsettled, HasUnsettled}

-- a value is barred of which the changes make none that is kept
abbrev pub bars : List Change → ValueSet → ComponentNo → PartValue → List Condition
bars changes kept k v = if is_member kept (value_after changes k.0 v) then [] else record { component = k; test = test.IsNot v } ∷ []

abbrev pub bars_at : List Change → PlainEntry → PlainEntry → ComponentNo → List Condition
bars_at changes from kept k = flat_map (bars changes (set_at kept k.0) k) (set_at from k.0).members

-- Of the first entry those values are left of which the changes make values of the second.
abbrev pub barred : App → List Change → PlainEntry → PlainEntry → List Condition
barred app changes from kept = flat_map (λ (k : Component). bars_at changes from kept (component_no (component_number app k))) (components app)

-- What the scheduler does where the step is by the exit, by the values of the entry before the changes.
abbrev pub outcome_by : App → List Change → PlainEntry → Exit → Decision → OutcomeCase
outcome_by app changes from x d = record { conditions = barred app changes from x.entry; decision = d; target = x.target }

abbrev pub outcome_if : App → List Change → PlainEntry → Exit → Option Decision → List OutcomeCase
outcome_if app changes from x None = []
outcome_if app changes from x (Some d) = outcome_by app changes from x d ∷ []

abbrev pub outcomes_by : App → List Change → PlainEntry → Exit → List OutcomeCase
outcomes_by app changes from x = outcome_if app changes from x x.decision

-- The rules of an effect come to others, one for each of its exits from the values of an entry, before these are settled.
pub record AddsRulesOf (app : App) (from : PlainEntry) (effect : EffectCase) (before after : List Rule) : Type 0 where
  pub made : PlainEntry
  pub exits : List Exit
  pub each : (x : Exit) → Contains exits x → IsUnsettled app effect.leaving made x
  pub whole : (value : ℕ → PartValue) (d : Decision) → AreIn app from value → PassesAll app effect.conditions value → Decides app (values_after effect.changes value) effect.leaving d →
      HasUnsettled app effect.leaving exits d (values_after effect.changes value)
  pub added : after ≡ before ++ map (rule_of app effect) (flat_map (outcomes_by app effect.changes from) exits)
