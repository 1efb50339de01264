-- The scheduler by the values of the tasks: what it may do after an effect, and what the cases of that say.
use Rattle.std.specs.Prelude.{◌≡◌, ◌≢◌, ◌⊎◌, ⊤, ℕ, ◌<◌, ◌≤◌, ◌==◌, ◌&&◌, Bool, false, not, if◌then◌else◌, List, length, map, filter, IsTrue, Some, None, is_some, Contains}
use Rattle.std.specs.{List.{range_with_len}, declared.option.Option.{Option}}
use Rattle.osek_values.specs.declared.numbers.TaskNo.{TaskNo}
use Rattle.osek_standard.specs.declared.{app.App.{App}, point.Point.{Point}}
use Rattle.osek_standard.specs.declared.point.Point.TheVariants as point
use Rattle.osek_standard.specs.{Apps.{the_task}, Validity.{is_within}, States.{is_that_task}, Internal.{internal_of}, Dispatch.{Outcome, Keep, To}}
use Rattle.abstract_state.specs.{declared.{value.PartValue.{PartValue}, table.PlainEntry.{PlainEntry}}, Concrete.{AreAllowed, val_of}}
use Rattle.flow_model.specs.declared.case.{Asked.{Asked}, Decision.{Decision}, EffectCase.{EffectCase}, Leaving.{Leaving}, OutcomeCase.{OutcomeCase}, Stay.{Stay}}
use Rattle.flow_model.specs.declared.case.Asked.TheVariants as asked
use Rattle.flow_model.specs.declared.case.Decision.TheVariants as decision
use Rattle.flow_model.specs.declared.case.Stay.TheVariants as stay
use Rattle.flow_model.specs.declared.change.Change.{Change}
use Rattle.flow_model.specs.declared.runner.Runner.TheVariants as runner
use Rattle.flow_model.specs.declared.change.Update.TheVariants as update
use Rattle.flow_model.specs.{Values.{is_live_value, block_of, value_priority}, Runners.{change}, Tests.{updated, PassesAll, values_after}, Effects.{AreIn, stay_point}}

abbrev pub outcome_of_decision : Decision → Outcome
outcome_of_decision decision.Keep = Keep
outcome_of_decision (decision.To x) = To x

-- Between equal priorities the order of the line is free, but that a task which was put last goes after each other one:
-- may w go first of those of its priority?
abbrev pub may_tie : Option TaskNo → ℕ → Bool
may_tie last w = not (is_that_task last w)

-- with these values of the components
module _ (app : App) (value : ℕ → PartValue) where
  abbrev pub is_live_task : ℕ → Bool
  is_live_task u = is_live_value (val_of (value u))

  abbrev pub task_priority : ℕ → ℕ
  task_priority u = value_priority app u (val_of (value u))

  pub record IsLiveTask (t : ℕ) : Type 0 where
    pub known : t < length app.tasks
    pub live : IsTrue (is_live_task t)

  -- each other Live task has a lower current priority, or the same and w may go first
  pub record IsBestTask (last : Option TaskNo) (w : ℕ) : Type 0 where
    pub is : IsLiveTask w
    pub others : (u : ℕ) → IsLiveTask u → u ≢ w → (task_priority u < task_priority w) ⊎ ((task_priority u ≡ task_priority w) × IsTrue (may_tie last w))

  abbrev pub NoneLive : Type 0
  NoneLive = (u : ℕ) → IsLiveTask u → ⊥

  -- the running task keeps the processor
  pub record NoneAbove (t : ℕ) : Type 0 where
    pub running : IsLiveTask t
    pub each : (u : ℕ) → IsLiveTask u → task_priority u ≤ task_priority t

  -- a best task is strictly above the running one
  pub record IsAbove (last : Option TaskNo) (t w : ℕ) : Type 0 where
    pub running : IsLiveTask t
    pub best : IsBestTask last w
    pub above : task_priority t < task_priority w

  -- where this is asked, and this task was put last
  abbrev pub DecidesBy : Option TaskNo → Asked → Decision → Type 0
  DecidesBy last asked.No decision.Keep = ⊤
  DecidesBy last asked.No (decision.To x) = ⊥
  DecidesBy last (asked.Maybe t) decision.Keep = NoneAbove t.0
  DecidesBy last (asked.Maybe t) (decision.To None) = ⊥
  DecidesBy last (asked.Maybe t) (decision.To (Some w)) = IsAbove last t.0 w.0
  DecidesBy last asked.Left decision.Keep = ⊥
  DecidesBy last asked.Left (decision.To None) = NoneLive
  DecidesBy last asked.Left (decision.To (Some w)) = IsBestTask last w.0
  DecidesBy last asked.Free decision.Keep = NoneLive
  DecidesBy last asked.Free (decision.To None) = ⊥
  DecidesBy last asked.Free (decision.To (Some w)) = IsBestTask last w.0

  -- The scheduler may decide so where an effect leaves this to it. Where tasks tie it may decide in more than one way: which
  -- of them comes first in the line is free.
  abbrev pub Decides : Leaving → Decision → Type 0
  Decides leaving d = DecidesBy leaving.last leaving.asked d

  -- where the step ends, which stands at a point after its effect
  abbrev pub end_point : Point → Decision → Point
  end_point p decision.Keep = p
  end_point p (decision.To None) = point.Idle
  end_point p (decision.To (Some w)) = point.Task (block_of (val_of (value w.0)))

-- the point is at a block of task c
abbrev pub is_at_task : App → Point → ℕ → Bool
is_at_task app point.Halted c = false
is_at_task app point.Idle c = false
is_at_task app (point.Task b) c = is_within b.0 ((the_task app c).first.0, (the_task app c).count)
is_at_task app (point.Routine b over) c = false

-- task c has the processor after this decision, where it else stays there
abbrev pub has_it_after : App → Stay → Decision → ℕ → Bool
has_it_after app x (decision.To o) c = is_that_task o c
has_it_after app (stay.At p) decision.Keep c = is_at_task app p c
has_it_after app (stay.AtBlockOf (runner.Task t)) decision.Keep c = t.0 == c
has_it_after app (stay.AtBlockOf (runner.Routine k z over)) decision.Keep c = false

-- it has, and names an INTERNAL resource
abbrev pub goes_inside : App → Stay → Decision → ℕ → Bool
goes_inside app x d c = has_it_after app x d c && is_some (internal_of app c)

-- What becomes of the value of component c by what the scheduler decides: who has the processor then is inside where it names
-- an INTERNAL resource.
abbrev pub settled_value : App → Stay → Decision → ℕ → PartValue → PartValue
settled_value app x d c v = if goes_inside app x d c then updated update.Inside v else v

-- the values of all components after the decision
abbrev pub settled_values : App → Stay → Decision → (ℕ → PartValue) → ℕ → PartValue
settled_values app x d value c = settled_value app x d c (value c)

-- the changes that make these of them
abbrev pub settling : App → Stay → Decision → List Change
settling app x d = map (λ (t : ℕ). change t update.Inside) (filter (goes_inside app x d) (range_with_len 0 (length app.tasks)))

-- a value for each component, out of its set, with which it can be at the point
pub record AreValuesOf (app : App) (p : Point) (entry : PlainEntry) (value : ℕ → PartValue) : Type 0 where
  pub within : AreIn app entry value
  pub allowed : AreAllowed app p value

-- The scheduler may decide as the case says, where the effect is this case's and these were the values before it.
pub record HasOutcome (app : App) (effect : EffectCase) (x : OutcomeCase) (value : ℕ → PartValue) : Type 0 where
  pub passes : PassesAll app x.conditions value
  pub decides : Decides app (values_after effect.changes value) effect.leaving x.decision
  pub target : x.target ≡ end_point app (values_after effect.changes value) (stay_point effect.leaving.stay (values_after effect.changes value)) x.decision

pub record HasSomeOutcome (app : App) (effect : EffectCase) (cases : List OutcomeCase) (d : Decision) (value : ℕ → PartValue) : Type 0 where
  pub case : OutcomeCase
  pub listed : Contains cases case
  pub decision : case.decision ≡ d
  pub outcome : HasOutcome app effect case value

-- Whatever the scheduler may decide, with values of the entry that the effect takes, is some case's.
abbrev pub CoverOutcomes : App → Point → PlainEntry → EffectCase → List OutcomeCase → Type 0
CoverOutcomes app p entry effect cases =
    (value : ℕ → PartValue) (d : Decision) → AreValuesOf app p entry value → PassesAll app effect.conditions value → Decides app (values_after effect.changes value) effect.leaving d → HasSomeOutcome app effect cases d value

-- With values of the entry that the effect and a case take the scheduler may decide what the case says.
abbrev pub AreExactOutcomes : App → Point → PlainEntry → EffectCase → List OutcomeCase → Type 0
AreExactOutcomes app p entry effect cases =
    (x : OutcomeCase) (value : ℕ → PartValue) → Contains cases x → AreValuesOf app p entry value → PassesAll app effect.conditions value → PassesAll app x.conditions value → HasOutcome app effect x value
