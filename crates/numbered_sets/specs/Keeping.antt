-- What updates made of sets, and is kept.
use Rattle.std.specs.Prelude.{◌≡◌, ℕ, ◌<◌, List, length, slice_index_or, IsTrue, Contains}
use Rattle.abstract_state.specs.declared.value.PartValue.{PartValue}
use Rattle.flow_model.specs.{declared.change.Update.{Update}, Tests.{updated}}
use Rattle.numbered_sets.specs.{declared.made_sets.MadeSet.{MadeSet}, Numbers.{Numbers, has_number, joined_numbers, other_numbers}, Made.{AreMade}}

-- what the update made of a set
abbrev pub made_set : ℕ → Update → Numbers → Numbers → MadeSet
made_set place u given made = record { place = place; update = u; given = given; made = made }

-- and of further numbers
abbrev pub with_further : MadeSet → Numbers → Numbers → MadeSet
with_further x given made = made_set x.place x.update (joined_numbers x.given given) (joined_numbers x.made made)

pub record IsMadeSet (vs : List PartValue) (x : MadeSet) : Type 0 where
  pub known : (n : ℕ) → IsTrue (has_number x.given n) → n < length vs
  pub made : AreMade (updated x.update) vs x.given (length vs) x.made

abbrev pub AreMadeSets : List PartValue → List MadeSet → Type 0
AreMadeSets vs sets = (x : MadeSet) → Contains sets x → IsMadeSet vs x

-- these are right if those were, and one more is
abbrev pub AreStillMade : List MadeSet → MadeSet → List MadeSet → Type 0
AreStillMade old x new = (vs : List PartValue) → AreMadeSets vs old → IsMadeSet vs x → AreMadeSets vs new

-- at this place stands what the update made of a set within this one
pub record IsKeptOf (u : Update) (asked : Numbers) (sets : List MadeSet) (at : ℕ) : Type 0 where
  pub known : at < length sets
  pub is : (none : MadeSet) → (slice_index_or sets at none).update ≡ u
  pub within : (none : MadeSet) → (other_numbers (slice_index_or sets at none).given asked).bits ≡ 0
