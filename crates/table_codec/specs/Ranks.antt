-- The ranks of a component's numbers: the places of their values in ascending order.
use Rattle.std.specs.Prelude.{◌≡◌, ℕ, ◌<◌, List, length, map, slice_index_or}
use Rattle.abstract_state.specs.declared.value.PartValue.{PartValue}
use Rattle.numbered_sets.specs.{Numbers.{Numbers, has_number}, Views.{values_with}}
use Rattle.table_codec.specs.{declared.{ascending.NumberedValue.{NumberedValue}, ranks.RankSet.{RankSet}}, Ascending.{values_in}}

-- the value at this place has the number
pub record IsRank (all : List NumberedValue) (n k : ℕ) : Type 0 where
  pub known : k < length all
  pub is : (none : NumberedValue) → (slice_index_or all k none).number ≡ n

-- Each number below their count is that of one value, and there is no other.
pub record AreNumberedOnce (all : List NumberedValue) : Type 0 where
  pub below : (n k : ℕ) → IsRank all n k → n < length all
  pub some : (n : ℕ) → n < length all → (k : ℕ) × IsRank all n k
  pub one : (n j k : ℕ) → IsRank all n j → IsRank all n k → j ≡ k

-- the rank of each number stands at its place
pub record AreRanks (all : List NumberedValue) (ranks : List ℕ) : Type 0 where
  pub as_many : length ranks ≡ length all
  pub each : (n : ℕ) → n < length ranks → IsRank all n (slice_index_or ranks n 0)

-- the values in an order, without their numbers
abbrev pub only_values : List NumberedValue → List PartValue
only_values all = map (λ (v : NumberedValue). v.value) all

-- the values with these ranks
abbrev pub values_ranked : Numbers → List NumberedValue → List PartValue
values_ranked ranks all = values_with (only_values all) (has_number ranks)

-- The ranks of the values whose numbers are in a set, and how many they are.
pub record AreRanksIn (x : Numbers) (all : List NumberedValue) (found : RankSet) : Type 0 where
  pub values : values_ranked found.ranks all ≡ values_in x all
  pub count : found.count ≡ length (values_in x all)
