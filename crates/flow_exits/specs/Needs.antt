-- How high the limits of the tasks have to be.
use Rattle.std.specs.{Prelude.{ℕ, ◌<◌, Bool, false, nat_lt, List, length, slice_index_or, IsTrue, Some, None}, declared.option.Option.{Option}}
use Rattle.flow_exits.specs.{declared.claim.Claim.{Claim}, Claims.{limit_of}}

abbrev pub is_too_low : Option ℕ → ℕ → Bool
is_too_low None need = false
is_too_low (Some limit) need = nat_lt limit need

-- some task has a lower limit than it needs
pub record IsTooLow (claim : Claim) (needs : List ℕ) : Type 0 where
  pub task : ℕ
  pub known : task < length needs
  pub low : IsTrue (is_too_low (limit_of claim task) (slice_index_or needs task 0))
