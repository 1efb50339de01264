-- Facts that structs keep: each has one proof at most.
use Rattle.std.specs.{Prelude.{◌≡◌, ℕ, List, Some, None, IfSome, slice_index_or}, Coded.{Unit-prop, le_prop}, declared.option.Option.{Option}}
use Rattle.std.proofs.Props.{props}
use Rattle.osek_standard.specs.declared.app.App.{App}
use Rattle.abstract_state.specs.declared.value.{Domain.{Domain}, PartValue.{PartValue}}
use Rattle.flow_model.specs.declared.{case.{Asked.{Asked}, Stay.{Stay}, Leaving.{Leaving}, Decision.{Decision}}, change.Change.{Change}, runner.Runner.{Runner}}
use Rattle.flow_model.specs.declared.case.Asked.TheVariants as asked
use Rattle.flow_model.specs.declared.case.Stay.TheVariants as stay
use Rattle.flow_model.specs.declared.case.Decision.TheVariants as decision
use Rattle.flow_model.specs.declared.runner.Runner.TheVariants as runner
use Rattle.flow_model.specs.{Runners.{IsRunnerOf}, Effects.{IsKnownStay}}
use Rattle.numbered_sets.specs.{declared.numbered_entry.NumberedEntry.{NumberedEntry}, Pools.{Values}}
use Rattle.flow_effects.specs.declared.{known_waits.KnownWait.{KnownWait}, waiting.WaitConditions.{WaitConditions}}
use Rattle.flow_effects.specs.{Alternatives.{wait_conditions}, KnownWaits.{AreKnownWaits}}
use Rattle.point_exits.specs.declared.{arrivals.ArrivalsOver.{ArrivalsOver}, insides.Insides.{Insides}, levels.Levels.{Levels}, task_levels.{Level.{Level}, TaskLevels.{TaskLevels}}}
use Rattle.point_exits.specs.{Changing.{AreInOrder}, Arrivals.{AreKnownArrivals}, Levels.{IsLiveAt, AreTaskLevels, AreInsides, AreLevels, AreAllLevels}, Narrowing.{AreNeeds}, Deciding.{IsWhole, IsDecidable, IsKnownDecision, IsDecided, IsAlive, IsAsked, IsLevelOf}}

-- ---- entries

pub SameDomains-prop : (some others : List Domain) → IsProp (some ≡ others)
SameDomains-prop some others = hlevel props

-- ---- levels

pub IsLiveAt-prop : (app : App) (u p : ℕ) (v : PartValue) → IsProp (IsLiveAt app u p v)
IsLiveAt-prop app u p v = hlevel props

pub AreTaskLevels-prop : (app : App) (u : ℕ) (vs : List PartValue) (x : TaskLevels) → IsProp (AreTaskLevels app u vs x)
AreTaskLevels-prop app u vs x = hlevel props

pub AreInsides-prop : (app : App) (pool : List Values) (insides : List Insides) → IsProp (AreInsides app pool insides)
AreInsides-prop app pool insides = hlevel props

pub AreKnownArrivals-prop : (app : App) (known : List ArrivalsOver) → IsProp (AreKnownArrivals app known)
AreKnownArrivals-prop app known = hlevel props

pub AreLevels-prop : (app : App) (pool : List Values) (levels : Levels) → IsProp (AreLevels app pool levels)
AreLevels-prop app pool levels = hlevel (props, AreTaskLevels-prop, AreInsides-prop, AreKnownArrivals-prop)

pub AreAllLevels-prop : (app : App) (pool : List Values) (levels : Levels) → IsProp (AreAllLevels app pool levels)
AreAllLevels-prop app pool levels = hlevel (props, AreLevels-prop)

-- ---- the conditions of WaitEvents

SameConditions-prop : (x : WaitConditions) (o : Option WaitConditions) → IsProp (IfSome o (λ y. y ≡ x))
SameConditions-prop x None = Unit-prop
SameConditions-prop x (Some y) = hlevel props

pub AreKnownWaits-prop : (app : App) (known : List KnownWait) → IsProp (AreKnownWaits app known)
AreKnownWaits-prop app known f g = λ k i d lt.
    let x = slice_index_or known i d in
    SameConditions-prop (wait_conditions app x.task x.mask) x.conditions (f i d lt) (g i d lt) k

-- ---- the values after an effect

pub IsRunnerOf-prop : (app : App) (x : Runner) → IsProp (IsRunnerOf app x)
IsRunnerOf-prop app (runner.Task t) = le_prop
IsRunnerOf-prop app (runner.Routine k z over) = hlevel props

pub IsKnownStay-prop : (app : App) (x : Stay) → IsProp (IsKnownStay app x)
IsKnownStay-prop app (stay.At p) = Unit-prop
IsKnownStay-prop app (stay.AtBlockOf r) = IsRunnerOf-prop app r

pub IsWhole-prop : (app : App) (pool : List Values) (entry : NumberedEntry) → IsProp (IsWhole app pool entry)
IsWhole-prop app pool entry = hlevel props

pub IsDecidable-prop : (app : App) (pool : List Values) (levels : Levels) (leaving : Leaving) (after : NumberedEntry) → IsProp (IsDecidable app pool levels leaving after)
IsDecidable-prop app pool levels leaving after = hlevel (props, IsKnownStay-prop, AreAllLevels-prop, IsWhole-prop)

IsKnownDecision-prop : (app : App) (d : Decision) → IsProp (IsKnownDecision app d)
IsKnownDecision-prop app decision.Keep = Unit-prop
IsKnownDecision-prop app (decision.To None) = Unit-prop
IsKnownDecision-prop app (decision.To (Some w)) = le_prop

pub IsDecided-prop : (app : App) (pool : List Values) (levels : Levels) (leaving : Leaving) (d : Decision) (left : NumberedEntry) → IsProp (IsDecided app pool levels leaving d left)
IsDecided-prop app pool levels leaving d left = hlevel (props, IsKnownStay-prop, IsKnownDecision-prop, AreAllLevels-prop, IsWhole-prop)

-- ---- who contends for the processor

pub IsLevelOf-prop : (levels : Levels) (t : ℕ) (level : Level) → IsProp (IsLevelOf levels t level)
IsLevelOf-prop levels t level = hlevel props

pub AreNeeds-prop : (app : App) (pool : List Values) (entry : NumberedEntry) (n : ℕ) (needs : List ℕ) → IsProp (AreNeeds app pool entry n needs)
AreNeeds-prop app pool entry n needs = hlevel props

IsAlive-prop : (app : App) (pool : List Values) (entry : NumberedEntry) (t : ℕ) → IsProp (IsAlive app pool entry t)
IsAlive-prop app pool entry t = hlevel props

pub IsAsked-prop : (app : App) (pool : List Values) (entry : NumberedEntry) (x : Asked) → IsProp (IsAsked app pool entry x)
IsAsked-prop app pool entry asked.No = hlevel props
IsAsked-prop app pool entry (asked.Maybe t) = IsAlive-prop app pool entry t.0
IsAsked-prop app pool entry asked.Left = Unit-prop
IsAsked-prop app pool entry asked.Free = Unit-prop

-- ---- changes

pub AreInOrder-prop : (A : Type 0) (xs : List Change) → IsProp (A → AreInOrder xs)
AreInOrder-prop A xs = hlevel props

pub IsPlaced-prop : (xs : List Change) (k : ℕ) (x : Change) → IsProp ((d : Change) → slice_index_or xs k d ≡ x)
IsPlaced-prop xs k x = hlevel props
