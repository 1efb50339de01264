-- The numbers of values by the blocks where these stand.
use Rattle.std.specs.Prelude.{◌≡◌, ℕ, ◌<◌, List, length, slice_index_or, IsTrue, Contains}
use Rattle.abstract_state.specs.declared.value.PartValue.{PartValue}
use Rattle.flow_model.specs.Values.{block_of_part}
use Rattle.numbered_sets.specs.Numbers.{has_number}
use Rattle.block_sets.specs.declared.sets.BlockSet.{BlockSet}

-- the numbers are those of values at the set's block
pub record IsBlockSet (vs : List PartValue) (x : BlockSet) : Type 0 where
  pub each : (n : ℕ) (d : PartValue) → IsTrue (has_number x.numbers n) → (n < length vs) × (block_of_part (slice_index_or vs n d) ≡ x.block)

abbrev pub AreBlockSets : List PartValue → List BlockSet → Type 0
AreBlockSets vs sets = (x : BlockSet) → Contains sets x → IsBlockSet vs x
