-- What the cases of an effect say of the states at a point.
use Rattle.std.specs.{Prelude.{◌≡◌, ⊤, ℕ, ◌<◌, Bool, false, List, [], ◌∷◌, ◌++◌, IsTrue, IfSome, None, Contains}, declared.option.Option.{Option}}
use Rattle.osek_values.specs.declared.numbers.TaskNo.{TaskNo}
use Rattle.osek_values.specs.declared.status.Ask.TheVariants as ask
use Rattle.osek_standard.specs.declared.{app.App.{App}, state.State.{State}}
use Rattle.osek_standard.specs.declared.state.Processor.TheVariants as processor
use Rattle.osek_standard.specs.declared.point.Point.{Point}
use Rattle.osek_standard.specs.{States.{is_that_task, task_of}, Points.{point_of}, Line.{places}, Effects.{Effect, effect}, Arrivals.{arrival}, Well.{Well, IsActive}}
use Rattle.abstract_state.specs.{declared.{value.PartValue.{PartValue}, table.PlainEntry.{PlainEntry}}, Components.{component_count, abstract_of, IsAllowed}}
use Rattle.abstract_state.specs.{Concrete.{HasParts}, Choices.{IsFirstIfThere}, Regular.{IsRegular}, Tables.{set_at, is_member}}
use Rattle.flow_model.specs.declared.case.{Asked.{Asked}, Stay.{Stay}, EffectCase.{EffectCase}}
use Rattle.flow_model.specs.declared.case.Asked.TheVariants as asked
use Rattle.flow_model.specs.declared.case.Stay.TheVariants as stay
use Rattle.flow_model.specs.{Values.{block_of_part}, Runners.{component_of, runner_point, runner_processor, IsRunnerOf}, Tests.{PassesAll, value_after}}

-- a value for each component, out of its set
abbrev pub AreIn : App → PlainEntry → (ℕ → PartValue) → Type 0
AreIn app entry value = (c : ℕ) → c < component_count app → IsTrue (is_member (set_at entry c) (value c))

-- the values of an entry are ones that well-formed states have at the point
abbrev pub AreAllAllowed : App → Point → PlainEntry → Type 0
AreAllAllowed app p entry = (c : ℕ) (v : PartValue) → c < component_count app → IsTrue (is_member (set_at entry c) v) → IsAllowed app p c v

-- a state of the entry, at the point
pub record IsAt (app : App) (p : Point) (entry : PlainEntry) (s : State) : Type 0 where
  pub well : Well app s
  pub regular : IsRegular app s
  pub point : point_of s ≡ p
  pub within : AreIn app entry (abstract_of app s)

abbrev pub Asks : Asked → Effect → Type 0
Asks asked.No e = e.ask ≡ ask.No
Asks (asked.Maybe t) e = (e.ask ≡ ask.Maybe) × (e.state.processor ≡ processor.Running t)
Asks asked.Left e = (e.ask ≡ ask.Left) × (e.state.processor ≡ processor.Idle)
Asks asked.Free e = (e.ask ≡ ask.Free) × (e.state.processor ≡ processor.Idle)

-- it stays there in this state
abbrev pub StaysAt : Stay → State → Type 0
StaysAt (stay.At p) s = point_of s ≡ p
StaysAt (stay.AtBlockOf r) s = s.processor ≡ runner_processor r

-- where the processor stands if it stays, with these values after the effect
abbrev pub stay_point : Stay → (ℕ → PartValue) → Point
stay_point (stay.At p) value = p
stay_point (stay.AtBlockOf r) value = runner_point r (block_of_part (value (component_of r)))

-- a runner at whose block it stays is one of the application's
abbrev pub IsKnownStay : App → Stay → Type 0
IsKnownStay app (stay.At p) = ⊤
IsKnownStay app (stay.AtBlockOf r) = IsRunnerOf app r

-- each case stays at a point or at the block of a runner of the application
abbrev pub HaveKnownStays : App → List EffectCase → Type 0
HaveKnownStays app cases = (x : EffectCase) → Contains cases x → IsKnownStay app x.leaving.stay

-- The line after an effect goes on where the one before ends. Each task that waits for the processor had its place there, but
-- for one that was put last: that one had none, and it alone came to the line.
pub record IsLineAfter (last : Option TaskNo) (before after : State) : Type 0 where
  pub more : List TaskNo
  pub is : after.line ≡ before.line ++ more
  pub new : IfSome last (λ (t : TaskNo). (more ≡ t ∷ []) × (places before t.0 ≡ 0))
  pub old : (t : ℕ) → is_that_task last t ≡ false → is_that_task (task_of after.processor) t ≡ false → 0 < places after t → 0 < places before t

-- where something is asked
abbrev pub LeavesLine : Asked → Option TaskNo → State → State → Type 0
LeavesLine asked.No last before after = ⊤
LeavesLine (asked.Maybe t) last before after = IsLineAfter last before after
LeavesLine asked.Left last before after = IsLineAfter last before after
LeavesLine asked.Free last before after = IsLineAfter last before after

-- The effect of the instruction is the case's: the state passes its conditions, and the effect makes its changes of the
-- components, leaves the processor where it stays and the line as it says, asks what it asks, and notes its status.
pub record HasEffect (app : App) (x : EffectCase) (s : State) (choice : Bool) : Type 0 where
  pub passes : PassesAll app x.conditions (abstract_of app s)
  pub point : StaysAt x.leaving.stay (effect app s choice).state
  pub parts : (c : ℕ) → c < component_count app → abstract_of app (effect app s choice).state c ≡ value_after x.changes c (abstract_of app s c)
  pub asks : Asks x.leaving.asked (effect app s choice)
  pub line : LeavesLine x.leaving.asked x.leaving.last s (effect app s choice).state
  pub status : (effect app s choice).notes.status ≡ x.leaving.status

pub record HasSomeEffect (app : App) (cases : List EffectCase) (s : State) (choice : Bool) : Type 0 where
  pub case : EffectCase
  pub listed : Contains cases case
  pub effect : HasEffect app case s choice

-- Each instruction of a state of the entry is some case's.
abbrev pub CoverEffects : App → Point → PlainEntry → List EffectCase → Type 0
CoverEffects app p entry cases = (s : State) (choice : Bool) → IsAt app p entry s → IsActive s.processor → HasSomeEffect app cases s choice

-- a well-formed state at the point, with these values of its components, whose instruction is the case's, where no routine
-- begins, and in whose line task t comes first if it stands there: all else is chosen
pub record ShowsEffect (app : App) (p : Point) (x : EffectCase) (value : ℕ → PartValue) (t : ℕ) : Type 0 where
  pub from : State
  pub choice : Bool
  pub has : HasParts app p value from
  pub alone : arrival app from ≡ None
  pub first : IsFirstIfThere t from
  pub effect : HasEffect app x from choice

-- Each choice of values of the entry that passes a case's conditions is a state's, whose instruction is the case's, whichever
-- task comes first in the line.
abbrev pub AreExactEffects : App → Point → PlainEntry → List EffectCase → Type 0
AreExactEffects app p entry cases =
    (x : EffectCase) (value : ℕ → PartValue) (t : ℕ) → Contains cases x → AreIn app entry value → PassesAll app x.conditions value → ShowsEffect app p x value t

-- These are the cases of the instructions at the point, whatever the entry there.
pub record AreCasesOf (app : App) (p : Point) (cases : List EffectCase) : Type 0 where
  pub covering : (entry : PlainEntry) → CoverEffects app p entry cases
  pub exact : (entry : PlainEntry) → AreAllAllowed app p entry → AreExactEffects app p entry cases
  pub stays : HaveKnownStays app cases
