-- What rules say of the steps from a point, and what they make of its entry.
use Rattle.std.specs.{Prelude.{◌≡◌, ℕ, ◌<◌, Bool, List, length, IsTrue, Some, None, Contains}, declared.option.Option.{Option}}
use Rattle.osek_values.specs.declared.{event.Event.{Event}, status.Status.{Status}}
use Rattle.osek_standard.specs.{declared.{app.App.{App}, state.State.{State}, point.Point.{Point}}, Points.{point_of}, Effects.{effect}, Dispatch.{outcome}, Kernel.{step}}
use Rattle.osek_standard.specs.{Outcomes.{Mark, Silent, Arrived, Did, shows}, Well.{IsActive}}
use Rattle.abstract_state.specs.{declared.{value.PartValue.{PartValue}, table.PlainEntry.{PlainEntry}}, Components.{component_count, abstract_of}, Concrete.{HasParts}}
use Rattle.abstract_state.specs.{Tables.{set_at, is_member, HasAscendingSets}, Domains.{domains}}
use Rattle.flow_model.specs.{declared.{case.Decision.{Decision}, rule.Rule.{Rule}}, Tests.{PassesAt, PassesAll, value_after}, Effects.{AreIn, IsAt}}
use Rattle.flow_model.specs.Scheduling.{outcome_of_decision}

abbrev pub mark_by : Option Decision → Option Status → Mark
mark_by None x = Arrived
mark_by (Some d) x = Did (outcome_of_decision d) x

-- what the rule's step shows
abbrev pub mark_of : Rule → Mark
mark_of rule = mark_by rule.decision rule.status

-- The step is the rule's: the state passes its conditions, and the step ends at its target, with its changes of the
-- components, its outcome and its status.
pub record Matches (app : App) (rule : Rule) (s : State) (e : Event) : Type 0 where
  pub passes : PassesAll app rule.conditions (abstract_of app s)
  pub target : point_of (step app s e).state ≡ rule.target
  pub parts : (c : ℕ) → c < component_count app → abstract_of app (step app s e).state c ≡ value_after rule.changes c (abstract_of app s c)
  pub shows : shows app s e ≡ mark_of rule
  pub status : (step app s e).notes.status ≡ rule.status

pub record IsMatched (app : App) (rules : List Rule) (s : State) (e : Event) : Type 0 where
  pub rule : Rule
  pub listed : Contains rules rule
  pub matches : Matches app rule s e

-- Each step from a state of the entry that shows something is some rule's.
abbrev pub Covering : App → Point → PlainEntry → List Rule → Type 0
Covering app p entry rules = (s : State) (e : Event) → IsAt app p entry s → (shows app s e ≡ Silent → ⊥) → IsMatched app rules s e

-- the instruction at the processor is the rule's, whether or not a routine begins in its place: the state passes the rule's
-- conditions, and its outcome and its status are the rule's
pub record IsForeseenBy (app : App) (rule : Rule) (s : State) (choice : Bool) : Type 0 where
  pub decision : Decision
  pub passes : PassesAll app rule.conditions (abstract_of app s)
  pub decides : rule.decision ≡ Some decision
  pub outcome : outcome app s choice ≡ outcome_of_decision decision
  pub status : (effect app s choice).notes.status ≡ rule.status

pub record IsForeseen (app : App) (rules : List Rule) (s : State) (choice : Bool) : Type 0 where
  pub rule : Rule
  pub listed : Contains rules rule
  pub foreseen : IsForeseenBy app rule s choice

-- Each instruction of a state of the entry is some rule's.
abbrev pub Foresees : App → Point → PlainEntry → List Rule → Type 0
Foresees app p entry rules = (s : State) (choice : Bool) → IsAt app p entry s → IsActive s.processor → IsForeseen app rules s choice

-- a well-formed state at the point, with these values of its components, whose step is the rule's: all else is chosen
pub record Shown (app : App) (p : Point) (rule : Rule) (value : ℕ → PartValue) : Type 0 where
  pub from : State
  pub event : Event
  pub has : HasParts app p value from
  pub matches : Matches app rule from event

-- Each choice of values of the entry that passes a rule's conditions is a state's, whose step is the rule's.
abbrev pub Exact : App → Point → PlainEntry → List Rule → Type 0
Exact app p entry rules = (rule : Rule) (value : ℕ → PartValue) → Contains rules rule → AreIn app entry value → PassesAll app rule.conditions value → Shown app p rule value

-- a value of the entry that the rule takes
pub record Taken (rule : Rule) (entry : PlainEntry) (c : ℕ) : Type 0 where
  pub was : PartValue
  pub there : IsTrue (is_member (set_at entry c) was)
  pub passes : PassesAt rule.conditions c was

-- and that it makes this value
pub record Comes (rule : Rule) (entry : PlainEntry) (c : ℕ) (v : PartValue) : Type 0 where
  pub taken : Taken rule entry c
  pub becomes : value_after rule.changes c taken.was ≡ v

-- Each set holds exactly what the rule makes of the old set's values that pass, of which there is one.
pub record Applies (rule : Rule) (entry new : PlainEntry) : Type 0 where
  pub domains : domains new ≡ domains entry
  pub ascending : HasAscendingSets new
  pub from : (c : ℕ) (v : PartValue) → c < length entry.sets → IsTrue (is_member (set_at new c) v) → Comes rule entry c v
  pub to : (c : ℕ) (v : PartValue) → c < length entry.sets → IsTrue (is_member (set_at entry c) v) → PassesAt rule.conditions c v → IsTrue (is_member (set_at new c) (value_after rule.changes c v))
  pub filled : (c : ℕ) → c < length entry.sets → Taken rule entry c

-- some set has no value that passes
pub record HasNone (rule : Rule) (entry : PlainEntry) : Type 0 where
  pub component : ℕ
  pub known : component < length entry.sets
  pub none : (v : PartValue) → IsTrue (is_member (set_at entry component) v) → PassesAt rule.conditions component v → ⊥
