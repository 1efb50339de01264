-- What comes of the values after an effect.
use Rattle.std.specs.Prelude.{ℕ, List, length}
use Rattle.abstract_state.specs.declared.value.PartValue.{PartValue}
use Rattle.flow_model.specs.declared.case.Decision.{Decision}
use Rattle.numbered_sets.specs.declared.numbered_entry.NumberedEntry.{NumberedEntry}
use Rattle.flow_exits.specs.declared.claim.Claim.{Claim}
use Rattle.point_exits.specs.declared.{after_effect.AfterEffect.{AfterEffect}, group.ExitGroup.{ExitGroup}, task_levels.Level.{Level}}
use Rattle.point_exits.specs.{Narrowing.{IsLeft, is_under_limit, AreNeeds}, Deciding.{AddsFor, IsAsked, IsAtLevel, IsCut, NeverAt}, OneProof.{AreNeeds-prop, IsAsked-prop}}

-- what comes of those values that have a property
abbrev pub Adds : AfterEffect → ((ℕ → PartValue) → Decision → Type 0) → List ExitGroup → List ExitGroup → Type 0
Adds x P before now = AddsFor x.app.now x.pool.now x.leaving x.after P before now

-- what comes of those with a value of task t of the level, with which it is decided so
abbrev pub AddsAt : AfterEffect → ℕ → Level → Decision → List ExitGroup → List ExitGroup → Type 0
AddsAt x t level d before now = Adds x (IsAtLevel x.pool.now x.after t level d) before now

-- for each task the least limit under which it is with some value
abbrev pub AreNeedsOf : AfterEffect → List ℕ → Type 0
AreNeedsOf x needs = AreNeeds x.app.now x.pool.now x.after (length x.app.now.tasks) needs

pub AreNeedsOf-prop : (x : AfterEffect) (needs : List ℕ) → IsProp (AreNeedsOf x needs)
AreNeedsOf-prop x needs = AreNeeds-prop x.app.now x.pool.now x.after (length x.app.now.tasks) needs

-- somebody is to have the processor
abbrev pub IsAskedOf : AfterEffect → Type 0
IsAskedOf x = IsAsked x.app.now x.pool.now x.after x.leaving.asked

pub IsAskedOf-prop : (x : AfterEffect) → IsProp (IsAskedOf x)
IsAskedOf-prop x = IsAsked-prop x.app.now x.pool.now x.after x.leaving.asked

-- those values of the first n tasks are left with which each is under its limit
abbrev pub IsLeftBy : AfterEffect → Claim → ℕ → NumberedEntry → Type 0
IsLeftBy x claim n left = IsLeft (is_under_limit x.app.now claim n) x.pool.now x.after left

-- of these the values of task t that are of the level
abbrev pub IsCutOf : AfterEffect → Claim → ℕ → Level → NumberedEntry → Type 0
IsCutOf x claim t level left = IsCut x.app.now x.pool.now claim t level x.after left

-- there are none
abbrev pub NeverOf : AfterEffect → Claim → ℕ → Level → Type 0
NeverOf x claim t level = NeverAt x.app.now claim x.pool.now x.after t level
