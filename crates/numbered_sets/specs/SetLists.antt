-- Lists of sets of numbers, one for each component.
use Rattle.std.specs.Prelude.{◌≡◌, ℕ, List, length, slice_index_or, sum_by}
use Rattle.abstract_state.specs.declared.value.Domain.TheVariants as domain
use Rattle.numbered_sets.specs.Numbers.{Numbers, numbers, joined_numbers, number_count}

-- the set of a component
abbrev pub set_of : List Numbers → ℕ → Numbers
set_of sets c = slice_index_or sets c (numbers domain.Alarm 0)

-- How many numbers there are in all.
abbrev pub all_numbers : List Numbers → ℕ
all_numbers sets = sum_by number_count sets

-- The join of the sets of two lists: each has the numbers of both.
pub record AreJoinedSets (sets other after : List Numbers) : Type 0 where
  pub as_many : length after ≡ length sets
  pub each : (c : ℕ) → set_of after c ≡ joined_numbers (set_of sets c) (set_of other c)
