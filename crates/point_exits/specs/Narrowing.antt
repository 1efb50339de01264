-- What is left of the numbers of an entry where the scheduler decides so.
use Rattle.std.specs.Prelude.{◌≡◌, ℕ, ◌<◌, ◌&&◌, Bool, true, false, nat_lt, List, length, slice_index_or, if◌then◌else◌}
use Rattle.osek_standard.specs.declared.app.App.{App}
use Rattle.abstract_state.specs.{declared.value.PartValue.{PartValue}, Concrete.{val_of}}
use Rattle.flow_model.specs.Effects.{AreIn}
use Rattle.numbered_sets.specs.{declared.numbered_entry.NumberedEntry.{NumberedEntry}, Numbers.{has_number}, NumberedEntries.{numbers_at, number_domains}}
use Rattle.numbered_sets.specs.{Pools.{Values, values_at}, Views.{plain_entry}}
use Rattle.flow_exits.specs.{declared.claim.Claim.{Claim}, Claims.{limit_of, is_under, AreUnder}, Needs.{is_too_low}}
use Rattle.point_exits.specs.Levels.{IsLeastLimit}

-- Of each component the numbers are left whose values pass.
pub record IsLeft (passes : ℕ → PartValue → Bool) (pool : List Values) (entry left : NumberedEntry) : Type 0 where
  pub domains : number_domains left ≡ number_domains entry
  pub each : (c n : ℕ) (d : PartValue) → has_number (numbers_at left c) n ≡ (has_number (numbers_at entry c) n && passes c (slice_index_or (values_at pool c) n d))

-- the tasks below n are under their limits
abbrev pub is_under_limit : App → Claim → ℕ → ℕ → PartValue → Bool
is_under_limit app claim n c v = if nat_lt c n then is_under app c (limit_of claim c) (val_of v) else true

-- for each task below n the least limit under which it is with some value of the entry
pub record AreNeeds (app : App) (pool : List Values) (entry : NumberedEntry) (n : ℕ) (needs : List ℕ) : Type 0 where
  pub size : length needs ≡ n
  pub each : (u : ℕ) → u < n → IsLeastLimit app u (values_at pool u) (numbers_at entry u) (slice_index_or needs u 0)

-- no task has a lower limit than it needs
abbrev pub AreMet : Claim → List ℕ → Type 0
AreMet claim needs = (u : ℕ) → u < length needs → is_too_low (limit_of claim u) (slice_index_or needs u 0) ≡ false

-- with no values of the entry each task is under its limit
abbrev pub NeverUnder : App → Claim → List Values → NumberedEntry → Type 0
NeverUnder app claim pool entry = (value : ℕ → PartValue) → AreIn app (plain_entry pool entry) value → AreUnder app claim (length app.tasks) value → ⊥
