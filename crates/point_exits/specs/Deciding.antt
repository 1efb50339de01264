-- Groups of exits that come of what the scheduler decides with the values after an effect.
use Rattle.std.specs.{Prelude.{◌≡◌, ◌⊎◌, ⊤, ℕ, ◌<◌, ◌≤◌, List, [], ◌∷◌, ◌++◌, length, slice_index_or, slice_set, IsTrue, Some, None, Contains}, declared.option.Option.{Option}}
use Rattle.osek_values.specs.declared.numbers.TaskNo.{TaskNo}
use Rattle.osek_standard.specs.declared.app.App.{App}
use Rattle.osek_standard.specs.declared.point.Point.{Point}
use Rattle.osek_standard.specs.declared.point.Point.TheVariants as point
use Rattle.abstract_state.specs.{declared.{value.{Domain.{Domain}, PartValue.{PartValue}}, table.PlainEntry.{PlainEntry}}, Components.{component_count}, Concrete.{val_of}}
use Rattle.flow_model.specs.declared.case.{Asked.{Asked}, Stay.{Stay}, Leaving.{Leaving}, Decision.{Decision}}
use Rattle.flow_model.specs.declared.case.Asked.TheVariants as asked
use Rattle.flow_model.specs.declared.case.Stay.TheVariants as stay
use Rattle.flow_model.specs.declared.case.Decision.TheVariants as decision
use Rattle.flow_model.specs.declared.runner.Runner.{Runner}
use Rattle.flow_model.specs.declared.runner.Runner.TheVariants as runner
use Rattle.flow_model.specs.{Values.{is_live_value, block_of_part}, Runners.{component_of, runner_point}, Effects.{AreIn, stay_point, IsKnownStay}, Scheduling.{Decides, end_point}}
use Rattle.numbered_sets.specs.{declared.numbered_entry.NumberedEntry.{NumberedEntry}, Numbers.{has_number, kept_numbers}, NumberedEntries.{numbers_at, AreFilled}, Pools.{Values, values_at, IsNumberOf}}
use Rattle.numbered_sets.specs.Views.{plain_entry, AreNumbersOf}
use Rattle.flow_exits.specs.{declared.{exit.Exit.{Exit}, claim.Claim.{Claim}}, Exits.{IsFilled}, Claims.{limit_of, AreUnder}}
use Rattle.point_exits.specs.declared.{task_levels.{Level.{Level}, TaskLevels.{TaskLevels}}, levels.Levels.{Levels}}
use Rattle.point_exits.specs.declared.group.{NumberEnd.{NumberEnd}, Ends.{Ends}, ExitGroup.{ExitGroup}}
use Rattle.point_exits.specs.declared.group.Ends.TheVariants as ends
use Rattle.point_exits.specs.{Groups.{all_exits, AreKnownGroups}, Levels.{AreAllLevels}, Narrowing.{IsLeft, is_under_limit}}

-- an entry with numbers of the pool, of which each component has one
pub record IsWhole (app : App) (pool : List Values) (entry : NumberedEntry) : Type 0 where
  pub size : component_count app ≤ length entry.sets
  pub numbers : AreNumbersOf pool entry
  pub filled : AreFilled entry

-- Of this the scheduler can decide: each value has its level, each component a value, and the task exists at whose block the
-- processor may stay.
pub record IsDecidable (app : App) (pool : List Values) (these : Levels) (leaving : Leaving) (after : NumberedEntry) : Type 0 where
  pub stay : IsKnownStay app leaving.stay
  pub levels : AreAllLevels app pool these
  pub whole : IsWhole app pool after

-- ---- ends

-- the numbers of an end are of values of a component's domain, and there is one
pub record HasNumbersOf (c : ℕ) (d : Domain) (x : NumberEnd) : Type 0 where
  pub component : x.component ≡ c
  pub domain : x.numbers.domain ≡ d
  pub some : 0 < x.numbers.bits

abbrev pub HaveNumbersOf : ℕ → Domain → List NumberEnd → Type 0
HaveNumbersOf c d xs = (x : NumberEnd) → Contains xs x → HasNumbersOf c d x

-- the number is one of those at a point
pub record IsNumberAt (xs : List NumberEnd) (p : Point) (n : ℕ) : Type 0 where
  pub end : NumberEnd
  pub listed : Contains xs end
  pub target : end.target ≡ p
  pub has : IsTrue (has_number end.numbers n)

-- a number comes to those at a point
pub record IsNumberPut (p : Point) (n : ℕ) (before after : List NumberEnd) : Type 0 where
  pub kept : (q : Point) (m : ℕ) → IsNumberAt before q m → IsNumberAt after q m
  pub there : IsNumberAt after p n
  pub from : (q : Point) (m : ℕ) → IsNumberAt after q m → IsNumberAt before q m ⊎ ((q ≡ p) × (m ≡ n))

-- where the value of a runner's component with a number stands
abbrev pub block_with : List Values → Runner → ℕ → PartValue → Point
block_with pool r n d = runner_point r (block_of_part (slice_index_or (values_at pool (component_of r)) n d))

-- the numbers that the entry has of a runner's component are at the blocks where their values stand
pub record AreBlockEnds (pool : List Values) (entry : NumberedEntry) (r : Runner) (xs : List NumberEnd) : Type 0 where
  pub some : HaveNumbersOf (component_of r) (numbers_at entry (component_of r)).domain xs
  pub each : (p : Point) (n : ℕ) (d : PartValue) → IsNumberAt xs p n → IsTrue (has_number (numbers_at entry (component_of r)) n) × (p ≡ block_with pool r n d)
  pub whole : (n : ℕ) (d : PartValue) → IsTrue (has_number (numbers_at entry (component_of r)) n) → IsNumberAt xs (block_with pool r n d) n

abbrev pub AreBlocks : List Values → NumberedEntry → Runner → Ends → Type 0
AreBlocks pool entry r (ends.At points) = ⊥
AreBlocks pool entry r (ends.With xs) = AreBlockEnds pool entry r xs

-- where the processor stands if it stays
abbrev pub AreStayEnds : List Values → NumberedEntry → Stay → Ends → Type 0
AreStayEnds pool entry (stay.At p) xs = xs ≡ ends.At (p ∷ [])
AreStayEnds pool entry (stay.AtBlockOf r) xs = AreBlocks pool entry r xs

-- where it stands after this decision
abbrev pub AreEndsBy : List Values → NumberedEntry → Stay → Decision → Ends → Type 0
AreEndsBy pool entry where_to decision.Keep xs = AreStayEnds pool entry where_to xs
AreEndsBy pool entry where_to (decision.To None) xs = xs ≡ ends.At (point.Idle ∷ [])
AreEndsBy pool entry where_to (decision.To (Some w)) xs = AreBlocks pool entry (runner.Task w) xs

-- One group comes last: that of the exits with these numbers by which this is decided.
pub record AddsOne (pool : List Values) (leaving : Leaving) (d : Decision) (entry : NumberedEntry) (before now : List ExitGroup) : Type 0 where
  pub group : ExitGroup
  pub added : now ≡ before ++ group ∷ []
  pub decision : group.decision ≡ Some d
  pub status : group.status ≡ leaving.status
  pub numbers : group.entry ≡ entry
  pub ends : AreEndsBy pool entry leaving.stay d group.ends

-- ---- what is decided

-- a task that gets the processor is one of the application's
abbrev pub IsKnownDecision : App → Decision → Type 0
IsKnownDecision app decision.Keep = ⊤
IsKnownDecision app (decision.To None) = ⊤
IsKnownDecision app (decision.To (Some w)) = w.0 < length app.tasks

-- It is decided so with numbers that are left of each component, each value has its level, and the task exists at whose block the
-- processor may stay.
pub record IsDecided (app : App) (pool : List Values) (these : Levels) (leaving : Leaving) (d : Decision) (left : NumberedEntry) : Type 0 where
  pub stay : IsKnownStay app leaving.stay
  pub known : IsKnownDecision app d
  pub levels : AreAllLevels app pool these
  pub whole : IsWhole app pool left

-- An exit that isn't settled yet: with each choice of its values, which are values after the effect, the scheduler decides as the
-- exit says, and the step ends where it does.
pub record IsUnsettled (app : App) (leaving : Leaving) (after : PlainEntry) (x : Exit) : Type 0 where
  pub decision : Decision
  pub decides : x.decision ≡ Some decision
  pub status : x.status ≡ leaving.status
  pub filled : IsFilled app x.entry
  pub within : (value : ℕ → PartValue) → AreIn app x.entry value → AreIn app after value
  pub each : (value : ℕ → PartValue) → AreIn app x.entry value → Decides app value leaving decision
  pub target : (value : ℕ → PartValue) → AreIn app x.entry value → x.target ≡ end_point app value (stay_point leaving.stay value) decision

-- one of these exits, which aren't settled yet, has the values, with which it is decided so
pub record HasUnsettled (app : App) (leaving : Leaving) (exits : List Exit) (d : Decision) (value : ℕ → PartValue) : Type 0 where
  pub exit : Exit
  pub listed : Contains exits exit
  pub decision : exit.decision ≡ Some d
  pub status : exit.status ≡ leaving.status
  pub within : AreIn app exit.entry value
  pub target : exit.target ≡ end_point app value (stay_point leaving.stay value) d

-- More groups come last: their exits are decided with values after the effect, and whatever is decided by values with a property
-- is one's.
pub record AddsFor (app : App) (pool : List Values) (leaving : Leaving) (after : NumberedEntry) (P : (ℕ → PartValue) → Decision → Type 0) (before now : List ExitGroup) : Type 0 where
  pub more : List ExitGroup
  pub added : now ≡ before ++ more
  pub known : AreKnownGroups pool more
  pub each : (x : Exit) → Contains (all_exits pool more) x → IsUnsettled app leaving (plain_entry pool after) x
  pub whole : (value : ℕ → PartValue) (d : Decision) → AreIn app (plain_entry pool after) value → Decides app value leaving d → P value d → HasUnsettled app leaving (all_exits pool more) d value

abbrev pub IsAny : (ℕ → PartValue) → Decision → Type 0
IsAny value d = ⊤

-- it is decided so
abbrev pub IsIt : Decision → (ℕ → PartValue) → Decision → Type 0
IsIt d value e = e ≡ d

-- the value of task t has a number of the entry that is of the level
pub record IsOfLevel (pool : List Values) (entry : NumberedEntry) (t : ℕ) (level : Level) (value : ℕ → PartValue) : Type 0 where
  pub number : ℕ
  pub has : IsTrue (has_number (numbers_at entry t) number)
  pub among : IsTrue (has_number level.numbers number)
  pub is : IsNumberOf (values_at pool t) (value t) number

-- it is decided so, with a value of task t of the level
abbrev pub IsAtLevel : List Values → NumberedEntry → ℕ → Level → Decision → (ℕ → PartValue) → Decision → Type 0
IsAtLevel pool entry t level d value e = (e ≡ d) × IsOfLevel pool entry t level value

-- the same of one of the first i levels
pub record IsAtFirst (pool : List Values) (entry : NumberedEntry) (t : ℕ) (levels : List Level) (i : ℕ) (d : Decision) (value : ℕ → PartValue) (e : Decision) : Type 0 where
  pub decision : e ≡ d
  pub place : ℕ
  pub known : place < i
  pub level : (none : Level) → IsOfLevel pool entry t (slice_index_or levels place none) value

-- a task below n gets the processor
pub record IsWinnerBelow (n : ℕ) (value : ℕ → PartValue) (d : Decision) : Type 0 where
  pub task : TaskNo
  pub known : task.0 < n
  pub decision : d ≡ decision.To (Some task)

-- it is a level of task t
abbrev pub IsLevelOf : Levels → ℕ → Level → Type 0
IsLevelOf levels t level = (none : TaskLevels) → ∥ Contains (slice_index_or levels.tasks t none).levels level ∥₁

-- task t is Live with each value that the entry has of it
pub record IsAlive (app : App) (pool : List Values) (entry : NumberedEntry) (t : ℕ) : Type 0 where
  pub known : t < length app.tasks
  pub live : (value : ℕ → PartValue) → AreIn app (plain_entry pool entry) value → IsTrue (is_live_value (val_of (value t)))

-- the task that runs where this is asked
abbrev pub over_of : Asked → Option TaskNo
over_of asked.No = None
over_of (asked.Maybe t) = Some t
over_of asked.Left = None
over_of asked.Free = None

-- something is asked, and the task that runs then is Live
abbrev pub IsAsked : App → List Values → NumberedEntry → Asked → Type 0
IsAsked app pool entry asked.No = ⊥
IsAsked app pool entry (asked.Maybe t) = IsAlive app pool entry t.0
IsAsked app pool entry asked.Left = ⊤
IsAsked app pool entry asked.Free = ⊤

-- ---- what a claim leaves, with the numbers of a level alone for the task that it is for

-- the limits are those of a claim, which has none for task t, and of that the numbers of a level are left
pub record IsClaimed (app : App) (pool : List Values) (c : Claim) (t : ℕ) (level : Level) (entry after : NumberedEntry) : Type 0 where
  pub free : limit_of c t ≡ None
  pub left : NumberedEntry
  pub is_left : IsLeft (is_under_limit app c (length app.tasks)) pool entry left
  pub there : t < length left.sets
  pub kept : after.sets ≡ slice_set left.sets t (kept_numbers (numbers_at left t) level.numbers)

-- so it is, and each component has a number
pub record IsCut (app : App) (pool : List Values) (c : Claim) (t : ℕ) (level : Level) (entry after : NumberedEntry) : Type 0 where
  pub claimed : IsClaimed app pool c t level entry after
  pub whole : IsWhole app pool after

-- with no values of the entry, that of task t of the level, each task is under its limit
abbrev pub NeverAt : App → Claim → List Values → NumberedEntry → ℕ → Level → Type 0
NeverAt app c pool entry t level = (value : ℕ → PartValue) → AreIn app (plain_entry pool entry) value → AreUnder app c (length app.tasks) value → IsOfLevel pool entry t level value → ⊥

-- It is decided so with each choice of the entry's values, which are values after the effect, and the entry has all those with
-- a property with which it is.
pub record IsGroupFor (app : App) (pool : List Values) (leaving : Leaving) (after : NumberedEntry) (P : (ℕ → PartValue) → Decision → Type 0) (d : Decision) (entry : NumberedEntry) : Type 0 where
  pub within : (value : ℕ → PartValue) → AreIn app (plain_entry pool entry) value → AreIn app (plain_entry pool after) value
  pub each : (value : ℕ → PartValue) → AreIn app (plain_entry pool entry) value → Decides app value leaving d
  pub whole : (value : ℕ → PartValue) (e : Decision) → AreIn app (plain_entry pool after) value → Decides app value leaving e → P value e →
      (e ≡ d) × AreIn app (plain_entry pool entry) value
