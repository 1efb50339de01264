-- Slots of a domain's values. A slot is told by the block and the number of the load, what a Live task has beside it, and
-- tells them.
use Rattle.std.specs.Prelude.{◌≡◌, ◌≢◌, ◌⊎◌, ⊤, ℕ, zero, suc, ◌+◌, ◌-◌, ◌*◌, ◌/◌, ◌%◌, ◌<◌, ◌≤◌, ◌^◌, nat_eq, false, List, [], ◌∷◌, ◌++◌, length, map, slice_index_or}
use Rattle.std.specs.{Prelude.{Some, None}, declared.option.Option.{Option}}
use Rattle.osek_values.specs.{Numbers.{block_no}, declared.numbers.BlockNo.{BlockNo}}
use Rattle.abstract_state.specs.declared.value.{LiveVal.{LiveVal}, Val.{Val, TheVariants.{Suspended, Live, Waiting}}, SourceVal.{SourceVal}, RoutineVal.{RoutineVal}}
use Rattle.abstract_state.specs.declared.value.{Domain.{Domain}, PartValue.{PartValue, TheVariants.{OfTask, OfEvent, OfAlarm, OfSource}}}
use Rattle.abstract_state.specs.declared.value.SourceVal.TheVariants as source_val
use Rattle.abstract_state.specs.declared.value.Domain.TheVariants as domain
use Rattle.abstract_state.specs.Components.{live_val, routine_val}
use Rattle.numbered_sets.specs.declared.{loads.Load.{Load}, slot_values.{BlockColumn.{BlockColumn}, SlotPlace.{SlotPlace}}}

-- what a Live value has beside its block
abbrev pub load_of : LiveVal → Load
load_of x = record { further = x.further; inside = x.inside; held = x.held }

-- and what a routine has: a stack alone
abbrev pub routine_load : RoutineVal → Load
routine_load x = record { further = 0; inside = false; held = x.held }

abbrev pub no_load : Load
no_load = record { further = 0; inside = false; held = [] }

abbrev pub carrying : BlockNo → Load → LiveVal
carrying b x = live_val b x.further x.inside x.held

-- A row has a value for each block of a task: waiting there, or Live there with a load, the first one in the row after the first.
abbrev pub in_row : List Load → ℕ → BlockNo → Val
in_row loads zero b = Waiting b
in_row loads (suc k) b = Live (carrying b (slice_index_or loads k no_load))

-- What a task is in a slot: suspended in the first one, behind which row stands behind row.
abbrev pub val_in : ℕ → ℕ → List Load → ℕ → Val
val_in first count loads zero = Suspended
val_in first count loads (suc n) = in_row loads (n / count) (block_no (first + n % count))

-- What a source is in a slot: Out in the first one, behind which rows stand as of a task. In the first row, where a task would
-- wait, nothing stands.
abbrev pub in_source_row : List Load → ℕ → BlockNo → SourceVal
in_source_row loads zero b = source_val.Out
in_source_row loads (suc k) b = source_val.In (routine_val b (slice_index_or loads k no_load).held)

abbrev pub source_in : ℕ → ℕ → List Load → ℕ → SourceVal
source_in first count loads zero = source_val.Out
source_in first count loads (suc n) = in_source_row loads (n / count) (block_no (first + n % count))

abbrev pub value_in : Domain → List Load → ℕ → PartValue
value_in (domain.Task first count activation internal takable) loads s = OfTask (val_in first.0 count loads s)
value_in domain.Event loads s = OfEvent (nat_eq s 1)
value_in domain.Alarm loads s = OfAlarm (nat_eq s 1)
value_in (domain.Source first count takable) loads s = OfSource (source_in first.0 count loads s)

abbrev pub slot_values : Domain → List Load → List ℕ → List PartValue
slot_values d loads = map (value_in d loads)

-- it has nothing but a stack
abbrev pub IsRoutineLoad : Load → Type 0
IsRoutineLoad x = (x.further ≡ 0) × (x.inside ≡ false)

-- the row is one of those that there are, and the block has a number of 16 bits
abbrev pub IsTaskSlot : ℕ → ℕ → List Load → ℕ → Type 0
IsTaskSlot first count loads zero = ⊤
IsTaskSlot first count loads (suc n) = (n < (1 + length loads) * count) × (first + n % count < 2 ^ 16)

-- behind the first row, and with a load that a routine can have
abbrev pub IsSourceSlot : ℕ → ℕ → List Load → ℕ → Type 0
IsSourceSlot first count loads zero = ⊤
IsSourceSlot first count loads (suc n) = (count ≤ n) × IsRoutineLoad (slice_index_or loads (n / count - 1) no_load) × IsTaskSlot first count loads (suc n)

abbrev pub IsSlot : Domain → List Load → ℕ → Type 0
IsSlot (domain.Task first count activation internal takable) loads s = IsTaskSlot first.0 count loads s
IsSlot domain.Event loads s = s < 2
IsSlot domain.Alarm loads s = s < 2
IsSlot (domain.Source first count takable) loads s = IsSourceSlot first.0 count loads s

pub record AreSlots (d : Domain) (loads : List Load) (slots : List ℕ) : Type 0 where
  pub each : (n e : ℕ) → n < length slots → IsSlot d loads (slice_index_or slots n e)

-- the slot of this block in a row
pub record IsSlotInRow (first count row block s : ℕ) : Type 0 where
  pub low : first ≤ block
  pub high : block < first + count
  pub is : s + first ≡ 1 + row * count + block

-- the one slot of a value
pub record IsTaskSlotOf (first count : ℕ) (loads : List Load) (v : Val) (s : ℕ) : Type 0 where
  pub known : IsTaskSlot first count loads s
  pub is : val_in first count loads s ≡ v
  pub only : (t : ℕ) → IsTaskSlot first count loads t → val_in first count loads t ≡ v → t ≡ s

pub record IsSourceSlotOf (first count : ℕ) (loads : List Load) (v : SourceVal) (s : ℕ) : Type 0 where
  pub known : IsSourceSlot first count loads s
  pub is : source_in first count loads s ≡ v
  pub only : (t : ℕ) → IsSourceSlot first count loads t → source_in first count loads t ≡ v → t ≡ s

pub record IsSlotOf (d : Domain) (loads : List Load) (v : PartValue) (s : ℕ) : Type 0 where
  pub known : IsSlot d loads s
  pub is : value_in d loads s ≡ v
  pub only : (t : ℕ) → IsSlot d loads t → value_in d loads t ≡ v → t ≡ s

-- the load with this number, which no other has
pub record IsLoadNumber (loads : List Load) (x : Load) (k : ℕ) : Type 0 where
  pub known : k < length loads
  pub is : slice_index_or loads k no_load ≡ x
  pub only : (j : ℕ) → j < length loads → slice_index_or loads j no_load ≡ x → j ≡ k

-- none stands twice
pub record AreDistinct (loads : List Load) : Type 0 where
  pub each : (j k : ℕ) → j < length loads → k < length loads → slice_index_or loads j no_load ≡ slice_index_or loads k no_load → j ≡ k

-- a load comes in last, or was there
abbrev pub IsGrownBy : Load → List Load → List Load → Type 0
IsGrownBy x loads after = (after ≡ loads) ⊎ (after ≡ loads ++ x ∷ [])

-- Loads keep their numbers as more come in.
pub record AreMoreLoads (loads after : List Load) : Type 0 where
  pub more : List Load
  pub is : after ≡ loads ++ more

-- the slot with this number
pub record IsNumberOfSlot (used : List ℕ) (s n : ℕ) : Type 0 where
  pub known : n < length used
  pub is : (d : ℕ) → slice_index_or used n d ≡ s

pub record IsUnused (used : List ℕ) (s : ℕ) : Type 0 where
  pub each : (n d : ℕ) → n < length used → slice_index_or used n d ≢ s

-- a slot has a number, or gets the next one
abbrev pub IsSlotGiven : (used : List ℕ) → (s : ℕ) → (after : List ℕ) → Type 0
IsSlotGiven used s after = (after ≡ used) ⊎ (IsUnused used s × (after ≡ used ++ s ∷ []))

abbrev pub none : ℕ
none = 4294967295

-- Slots in the order of first use, and how many columns they stand in: what is left over by the width is a slot's column, how often it goes in is its row.
pub record UsedSlots : Type 0 where
  pub width : ℕ
  pub used : List ℕ

abbrev pub used_slots : ℕ → List ℕ → UsedSlots
used_slots width used = record { width = width; used = used }

-- the number that stands in a row of a column
abbrev pub number_in : List (List ℕ) → (column : ℕ) → (row : ℕ) → ℕ
number_in columns column row = slice_index_or (slice_index_or columns column []) row none

-- the number of each slot stands in its column and row; none stands where the slot has none
pub record AreNumbersBySlot (width : ℕ) (used : List ℕ) (columns : List (List ℕ)) : Type 0 where
  pub wide : 0 < width
  pub few : length used ≤ none
  pub each : (n d : ℕ) → n < length used → number_in columns (slice_index_or used n d % width) (slice_index_or used n d / width) ≡ n
  pub only : (column row : ℕ) → column < width → number_in columns column row ≢ none → IsNumberOfSlot used (row * width + column) (number_in columns column row)

pub record AreSameNumbers (columns after : List (List ℕ)) : Type 0 where
  pub each : (column row : ℕ) → number_in after column row ≡ number_in columns column row

pub record IsRoomAt (columns : List (List ℕ)) (column row : ℕ) : Type 0 where
  pub wide : column < length columns
  pub long : row < length (slice_index_or columns column [])

-- the blocks of a task or of a routine: the first, and how many
abbrev pub blocks_of : Domain → Option (BlockNo × ℕ)
blocks_of (domain.Task first count activation internal takable) = Some (first, count)
blocks_of domain.Event = None
blocks_of domain.Alarm = None
blocks_of (domain.Source first count takable) = Some (first, count)

-- the slots of a task or of a source are as wide as it has blocks
abbrev pub width_of : Option (BlockNo × ℕ) → ℕ
width_of None = 1
width_of (Some (first, zero)) = 1
width_of (Some (first, suc n)) = suc n

abbrev pub slot_width : Domain → ℕ
slot_width d = width_of (blocks_of d)

-- where the slots of a block stand: that of a waiting task in this column and row, and that of a Live one as many rows on as its load's row
abbrev pub IsColumnIn : Option (BlockNo × ℕ) → BlockColumn → Type 0
IsColumnIn None c = ⊥
IsColumnIn (Some (first, count)) c = (c.column < count) × (c.block.0 < 2 ^ 16) × IsSlotInRow first.0 count 0 c.block.0 (c.row * count + c.column)

abbrev pub IsBlockColumn : Domain → BlockColumn → Type 0
IsBlockColumn d c = IsColumnIn (blocks_of d) c

-- the row of a slot behind the first one, and which block of the task's or the routine's it is
abbrev pub IsPlaceIn : Option (BlockNo × ℕ) → ℕ → SlotPlace → Type 0
IsPlaceIn None s p = ⊥
IsPlaceIn (Some (first, count)) s p = (p.offset < count) × (s ≡ 1 + p.row * count + p.offset)

abbrev pub IsSlotPlace : Domain → ℕ → SlotPlace → Type 0
IsSlotPlace d s p = IsPlaceIn (blocks_of d) s p
