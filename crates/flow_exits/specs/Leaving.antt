-- How the exits of a point come about: an effect, and then what the scheduler decides with the values after it.
use Rattle.std.specs.Prelude.{◌≡◌, ◌⊎◌, ℕ, ◌<◌, List, Some, None, Contains}
use Rattle.osek_standard.specs.declared.{app.App.{App}, point.Point.{Point}}
use Rattle.osek_standard.specs.declared.point.Point.TheVariants as point
use Rattle.abstract_state.specs.{declared.{value.PartValue.{PartValue}, table.PlainEntry.{PlainEntry}}, Components.{component_count}}
use Rattle.flow_model.specs.{declared.{case.{Decision.{Decision}, EffectCase.{EffectCase}, Leaving.{Leaving}}, rule.Rule.{Rule}}, Runners.{IsNobodys}}
use Rattle.flow_model.specs.{Effects.{AreIn, AreAllAllowed, stay_point, HaveKnownStays, CoverEffects, AreExactEffects}, Scheduling.{Decides, end_point, settled_values}}
use Rattle.flow_model.specs.Tests.{PassesAll, value_after, values_after}
use Rattle.flow_exits.specs.{Arrivals.{IsArrivalRule}, declared.exit.Exit.{Exit}, Exits.{IsFilled}}

-- ---- with the values after an effect

-- These come of values after an effect: with those the scheduler decides so, the step ends where the exit does, and what is
-- decided makes these of them.
pub record IsSettled (app : App) (leaving : Leaving) (after : PlainEntry) (x : Exit) (d : Decision) (value : ℕ → PartValue) : Type 0 where
  pub before : ℕ → PartValue
  pub within : AreIn app after before
  pub decides : Decides app before leaving d
  pub target : x.target ≡ end_point app before (stay_point leaving.stay before) d
  pub settles : (c : ℕ) → c < component_count app → settled_values app leaving.stay d before c ≡ value c

-- All values of the exit's components come of values of the entry after an effect with which the scheduler decides as the exit
-- says.
pub record IsDecided (app : App) (leaving : Leaving) (after : PlainEntry) (x : Exit) : Type 0 where
  pub decision : Decision
  pub decides : x.decision ≡ Some decision
  pub status : x.status ≡ leaving.status
  pub filled : IsFilled app x.entry
  pub each : (value : ℕ → PartValue) → AreIn app x.entry value → IsSettled app leaving after x decision value

-- the exit that has what becomes of these values, with which it is decided so
pub record HasDecided (app : App) (leaving : Leaving) (exits : List Exit) (d : Decision) (value : ℕ → PartValue) : Type 0 where
  pub exit : Exit
  pub listed : Contains exits exit
  pub decision : exit.decision ≡ Some d
  pub status : exit.status ≡ leaving.status
  pub within : AreIn app exit.entry (settled_values app leaving.stay d value)
  pub target : exit.target ≡ end_point app value (stay_point leaving.stay value) d

-- These exits come to others: they are decided with values after the effect, and whatever is decided is one's.
pub record AddsDecided (app : App) (leaving : Leaving) (after : PlainEntry) (before now : List Exit) : Type 0 where
  pub kept : (x : Exit) → Contains before x → Contains now x
  pub each : (x : Exit) → Contains now x → Contains before x ⊎ IsDecided app leaving after x
  pub whole : (value : ℕ → PartValue) (d : Decision) → AreIn app after value → Decides app value leaving d → HasDecided app leaving now d value

-- ---- from the values before

-- The rule makes these of values of the entry that it takes.
pub record IsMadeBy (app : App) (rule : Rule) (entry : PlainEntry) (value : ℕ → PartValue) : Type 0 where
  pub before : ℕ → PartValue
  pub within : AreIn app entry before
  pub passes : PassesAll app rule.conditions before
  pub becomes : (c : ℕ) → c < component_count app → value_after rule.changes c (before c) ≡ value c

-- ---- an effect

-- What an effect makes of an entry is what this rule does.
abbrev pub effect_rule : EffectCase → Rule
effect_rule effect = record { conditions = effect.conditions; changes = effect.changes; target = point.Halted; decision = None; status = None }

-- One of these effects makes values with which the scheduler decides so, and what is decided makes these of them.
pub record ComesOf (app : App) (effects : List EffectCase) (entry : PlainEntry) (x : Exit) (d : Decision) (value : ℕ → PartValue) : Type 0 where
  pub effect : EffectCase
  pub listed : Contains effects effect
  pub after : ℕ → PartValue
  pub made : IsMadeBy app (effect_rule effect) entry after
  pub decides : Decides app after effect.leaving d
  pub target : x.target ≡ end_point app after (stay_point effect.leaving.stay after) d
  pub settles : (c : ℕ) → c < component_count app → settled_values app effect.leaving.stay d after c ≡ value c
  pub status : x.status ≡ effect.leaving.status

-- The exit is that of these effects.
pub record IsOfEffects (app : App) (effects : List EffectCase) (entry : PlainEntry) (x : Exit) : Type 0 where
  pub decision : Decision
  pub decides : x.decision ≡ Some decision
  pub filled : IsFilled app x.entry
  pub comes : (value : ℕ → PartValue) → AreIn app x.entry value → ComesOf app effects entry x decision value

-- what the scheduler decides with the values after the effect is an exit's
abbrev pub HasExitsFor : App → EffectCase → PlainEntry → List Exit → Type 0
HasExitsFor app effect entry exits = (value : ℕ → PartValue) (d : Decision) → AreIn app entry value → PassesAll app effect.conditions value →
    Decides app (values_after effect.changes value) effect.leaving d → HasDecided app effect.leaving exits d (values_after effect.changes value)

-- ---- a routine begins

-- The exit is that by which a source's routine begins.
pub record IsArrivalExit (app : App) (p : Point) (entry : PlainEntry) (x : Exit) : Type 0 where
  pub rule : Rule
  pub arrival : IsArrivalRule app p rule
  pub target : x.target ≡ rule.target
  pub decision : x.decision ≡ None
  pub status : x.status ≡ None
  pub filled : IsFilled app x.entry
  pub comes : (value : ℕ → PartValue) → AreIn app x.entry value → IsMadeBy app rule entry value

-- the exit by which the routine begins has these values
pub record HasArrival (app : App) (rule : Rule) (exits : List Exit) (value : ℕ → PartValue) : Type 0 where
  pub exit : Exit
  pub listed : Contains exits exit
  pub target : exit.target ≡ rule.target
  pub decision : exit.decision ≡ None
  pub status : exit.status ≡ None
  pub within : AreIn app exit.entry value

-- with each choice of the entry's values that pass, the routine begins by one of the exits
abbrev pub HasArrivalsFor : App → Rule → PlainEntry → List Exit → Type 0
HasArrivalsFor app rule entry exits =
    (value : ℕ → PartValue) → AreIn app entry value → PassesAll app rule.conditions value → HasArrival app rule exits (values_after rule.changes value)

-- ---- all exits of a point

-- The exits are those of the routines that may begin at the point and those of effects, which are the effects of the
-- instructions there.
pub record AreExits (app : App) (p : Point) (entry : PlainEntry) (exits : List Exit) : Type 0 where
  pub effects : List EffectCase
  pub active : (x : EffectCase) → Contains effects x → IsNobodys p → ⊥
  pub stays : HaveKnownStays app effects
  pub covering : CoverEffects app p entry effects
  pub exact : AreAllAllowed app p entry → AreExactEffects app p entry effects
  pub each : (x : Exit) → Contains exits x → IsArrivalExit app p entry x ⊎ IsOfEffects app effects entry x
  pub arrivals : (rule : Rule) → IsArrivalRule app p rule → HasArrivalsFor app rule entry exits
  pub decisions : (x : EffectCase) → Contains effects x → HasExitsFor app x entry exits
