-- From the values after an effect to the exits that have them.
use Rattle.std.proofs.Common.{◌≡◌, ℕ, ◌<◌, List, length, IsTrue, sym, subst, inl, inr, arith}
use Rattle.std.specs.Prelude.{Contains}
use Rattle.std.proofs.lemmas.Bool.{cases_lt}
use Rattle.osek_standard.specs.declared.app.App.{App}
use Rattle.abstract_state.specs.{declared.{value.PartValue.{PartValue}, table.PlainEntry.{PlainEntry}}, Components.{component_count}, Tables.{set_at, is_member}}
use Rattle.flow_model.specs.{declared.{case.EffectCase.{EffectCase}, rule.Rule.{Rule}}, Effects.{AreIn}, Rules.{Applies, HasNone}}
use Rattle.flow_model.specs.Tests.{PassesAt, PassesAll, value_after, values_after}
use Rattle.flow_exits.specs.{declared.exit.Exit.{Exit}, Leaving.{IsOfEffects, HasExitsFor, IsDecided, AddsDecided, effect_rule, IsMadeBy, HasArrivalsFor}}

-- ---- what a rule makes

-- a value of the entry that the rule takes, and of which it makes this one
record Before (app : App) (rule : Rule) (entry : PlainEntry) (value : ℕ → PartValue) (c : ℕ) : Type 0 where
  was : PartValue
  there : c < component_count app → IsTrue (is_member (set_at entry c) was)
  passes : c < component_count app → PassesAt rule.conditions c was
  becomes : c < component_count app → value_after rule.changes c was ≡ value c

module _ (app : App) (rule : Rule) (entry after : PlainEntry) (size : length entry.sets ≡ component_count app) (made : Applies rule entry after) where
  in_sets : (c : ℕ) → c < component_count app → c < length entry.sets
  in_sets c lt = subst (λ (n : ℕ). c < n) (sym size) lt

  some_before : (value : ℕ → PartValue) → AreIn app after value → (c : ℕ) → Before app rule entry value c
  some_before value within c = elim (cases_lt c (component_count app)) [
    | inl below ↦
        (let o = made.from c (value c) (in_sets c below) (within c below) in
        record { was = o.taken.was; there = λ lt. o.taken.there; passes = λ lt. o.taken.passes; becomes = λ lt. o.becomes })
    | inr above ↦ record {
      was = value c;
      there = λ lt. absurd (omega (arith, lt, above));
      passes = λ lt. absurd (omega (arith, lt, above));
      becomes = λ lt. absurd (omega (arith, lt, above));
    }
  ]

  -- the values after a rule are made by it
  pub made_by : (value : ℕ → PartValue) → AreIn app after value → IsMadeBy app rule entry value
  made_by value within =
      let before : (c : ℕ) → Before app rule entry value c = some_before value within in
      record { before = λ c. (before c).was; within = λ c lt. (before c).there lt; passes = λ c lt. (before c).passes lt; becomes = λ c lt. (before c).becomes lt }

  -- and so are all that it makes
  pub all_after : (value : ℕ → PartValue) → AreIn app entry value → PassesAll app rule.conditions value → AreIn app after (values_after rule.changes value)
  all_after value within passes c lt = made.to c (value c) (in_sets c lt) (within c lt) (passes c lt)

-- a rule that takes no values makes none
none_pass : (app : App) (rule : Rule) (entry : PlainEntry) → HasNone rule entry → length entry.sets ≡ component_count app → (value : ℕ → PartValue) → AreIn app entry value →
    PassesAll app rule.conditions value → ⊥
none_pass app rule entry none size value within passes =
    let known : none.component < component_count app = subst (λ (n : ℕ). none.component < n) size none.known in
    none.none (value none.component) (within none.component known) (passes none.component known)

-- ---- an effect

-- what is decided with values after an effect is an exit of the effect
pub decided_comes : (app : App) (effects : List EffectCase) (effect : EffectCase) (entry after : PlainEntry) (x : Exit) → Contains effects effect → length entry.sets ≡ component_count app →
    Applies (effect_rule effect) entry after → IsDecided app effect.leaving after x → IsOfEffects app effects entry x
decided_comes app effects effect entry after x listed size made h = record {
  decision = h.decision;
  decides = h.decides;
  filled = h.filled;
  comes = λ value within.
      (let k = h.each value within in
      record {
        effect = effect;
        listed = listed;
        after = k.before;
        made = made_by app (effect_rule effect) entry after size made k.before k.within;
        decides = k.decides;
        target = k.target;
        settles = k.settles;
        status = h.status;
      });
}

-- and all that may be decided with them has an exit
pub decisions_covered : (app : App) (effect : EffectCase) (entry after : PlainEntry) (before now : List Exit) → length entry.sets ≡ component_count app →
    Applies (effect_rule effect) entry after → AddsDecided app effect.leaving after before now → HasExitsFor app effect entry now
decisions_covered app effect entry after before now size made h value d within passes decides =
    h.whole (values_after effect.changes value) d (all_after app (effect_rule effect) entry after size made value within passes) decides

-- where the effect takes no values nothing is decided
pub nothing_taken : (app : App) (effect : EffectCase) (entry : PlainEntry) (exits : List Exit) → HasNone (effect_rule effect) entry → length entry.sets ≡ component_count app → HasExitsFor app effect entry exits
nothing_taken app effect entry exits none size value d within passes decides = absurd (none_pass app (effect_rule effect) entry none size value within passes)

-- ---- a routine begins

-- where its rule takes no values no routine begins by it
pub nothing_arrives : (app : App) (rule : Rule) (entry : PlainEntry) (exits : List Exit) → HasNone rule entry → length entry.sets ≡ component_count app →
    HasArrivalsFor app rule entry exits
nothing_arrives app rule entry exits none size value within passes = absurd (none_pass app rule entry none size value within passes)
