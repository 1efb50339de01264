-- Who is to have the processor, and what the other tasks may be then.
use Rattle.std.specs.{Prelude.{ℕ, ◌+◌, ◌<◌, Bool, true, not, ◌||◌, nat_lt, ◌==◌, if◌then◌else◌, IsTrue, Some, None}, declared.option.Option.{Option}}
use Rattle.osek_values.specs.declared.numbers.TaskNo.{TaskNo}
use Rattle.osek_standard.specs.{declared.app.App.{App}, States.{is_that_task}}
use Rattle.abstract_state.specs.{declared.value.{Val.{Val, TheVariants.{Suspended, Live, Waiting}}, PartValue.{PartValue}}, Concrete.{val_of}}
use Rattle.flow_model.specs.Values.{value_priority}
use Rattle.flow_exits.specs.declared.claim.Claim.{Claim}
use Rattle.flow_exits.specs.declared.claim.Claim.TheVariants as claim

-- the limit of a task beside the best one: the running task is lower, and another one too where the best may not tie
abbrev pub limit_beside : ℕ → Option TaskNo → Bool → ℕ → ℕ
limit_beside p over may_tie u = if is_that_task over u || not may_tie then p else p + 1

-- What a task's current priority has to be below if it is Live.
abbrev pub limit_of : Claim → ℕ → Option ℕ
limit_of claim.Nobody u = Some 0
limit_of (claim.Keeps running p) u = if u == running.0 then None else Some (p + 1)
limit_of (claim.Gets best p over may_tie) u = if u == best.0 then None else Some (limit_beside p over may_tie u)

module _ (app : App) where
  -- a task that is Live is below the limit
  abbrev pub is_below : ℕ → ℕ → Val → Bool
  is_below u limit Suspended = true
  is_below u limit (Live x) = nat_lt (value_priority app u (Live x)) limit
  is_below u limit (Waiting b) = true

  abbrev pub is_under : ℕ → Option ℕ → Val → Bool
  is_under u None v = true
  is_under u (Some limit) v = is_below u limit v

  -- with these values the tasks below n are under their limits
  abbrev pub AreUnder : Claim → ℕ → (ℕ → PartValue) → Type 0
  AreUnder claim n value = (u : ℕ) → u < n → IsTrue (is_under u (limit_of claim u) (val_of (value u)))
