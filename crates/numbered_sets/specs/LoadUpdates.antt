-- What updates make of loads, where they leave what has them, and what is kept of that.
use Rattle.std.specs.Prelude.{◌≡◌, ◌≢◌, ⊤, ℕ, ◌+◌, ◌-◌, ◌*◌, ◌<◌, ◌^◌, Bool, true, false, List, [], length, slice_index_or, Contains}
use Rattle.std.specs.{Prelude.{Some, None}, declared.option.Option.{Option}}
use Rattle.osek_values.specs.declared.numbers.BlockNo.{BlockNo}
use Rattle.abstract_state.specs.declared.value.Domain.{Domain}
use Rattle.abstract_state.specs.declared.value.Domain.TheVariants as domain
use Rattle.flow_model.specs.{declared.change.Update.{Update}, Values.{with_top, without_top, one_further}}
use Rattle.flow_model.specs.declared.change.Update.TheVariants as update
use Rattle.numbered_sets.specs.declared.{loads.Load.{Load}, load_updates.LoadsAfter.{LoadsAfter}}
use Rattle.numbered_sets.specs.declared.slot_values.{SlotPlace.{SlotPlace}, Standing.{Standing, TheVariants.{At, Own}}}
use Rattle.numbered_sets.specs.Slots.{no_load, none, blocks_of, IsNumberOfSlot, IsSlotPlace, UsedSlots}

-- what an update makes of a load
abbrev pub load_after : Update → Load → Load
load_after (update.Set w) x = x
load_after (update.Block b) x = x
load_after (update.Take r b) x = record x { held = with_top x.held r }
load_after (update.Give b) x = record x { held = without_top x.held }
load_after update.More x = record x { further = one_further x.further }
load_after (update.Again b) x = record { further = x.further - 1; inside = false; held = [] }
load_after (update.Leave b) x = record x { inside = false }
load_after update.Inside x = record x { inside = true }
load_after (update.Release r) x = x

-- The block at which an update leaves what is Live, if it names one.
abbrev pub named_block : Update → Option BlockNo
named_block (update.Set w) = None
named_block (update.Block b) = Some b
named_block (update.Take r b) = Some b
named_block (update.Give b) = Some b
named_block update.More = None
named_block (update.Again b) = Some b
named_block (update.Leave b) = Some b
named_block update.Inside = None
named_block (update.Release r) = None

abbrev pub block_or : Option BlockNo → BlockNo → BlockNo
block_or None c = c
block_or (Some b) c = b

-- Whether the load and the block of a Live task, or of a routine, tell what an update makes of it, with another load.
abbrev pub changes_task_load : Update → Bool
changes_task_load (update.Set w) = false
changes_task_load (update.Block b) = false
changes_task_load (update.Release r) = false
changes_task_load u = true

abbrev pub changes_stack : Update → Bool
changes_stack (update.Take r b) = true
changes_stack (update.Give b) = true
changes_stack u = false

abbrev pub changes_load : Domain → Update → Bool
changes_load (domain.Task first count activation internal takable) u = changes_task_load u
changes_load domain.Event u = false
changes_load domain.Alarm u = false
changes_load (domain.Source first count takable) u = changes_stack u

-- Which of the blocks of a task or of a routine it is at which an update leaves what is Live.
abbrev pub IsStandingIn : Option (BlockNo × ℕ) → Option BlockNo → Standing → Type 0
IsStandingIn None to x = ⊥
IsStandingIn (Some (first, count)) None Own = ⊤
IsStandingIn (Some (first, count)) None (At o) = ⊥
IsStandingIn (Some (first, count)) (Some b) Own = ⊥
IsStandingIn (Some (first, count)) (Some b) (At o) = (o < count) × (b.0 ≡ first.0 + o) × (b.0 < 2 ^ 16)

abbrev pub IsStandingAfter : Domain → Update → Standing → Type 0
IsStandingAfter d u x = IsStandingIn (blocks_of d) (named_block u) x

abbrev pub offset_after : Standing → SlotPlace → ℕ
offset_after (At o) p = o
offset_after Own p = p.offset

-- the second number is that of what an update makes of the load with the first
pub record IsNumberAfter (loads : List Load) (u : Update) (k m : ℕ) : Type 0 where
  pub known : k < length loads
  pub there : m < length loads
  pub is : slice_index_or loads m no_load ≡ load_after u (slice_index_or loads k no_load)

-- for each load the number of what an update makes of it, or none
pub record AreNumbersAfter (loads : List Load) (u : Update) (numbers : List ℕ) : Type 0 where
  pub each : (k : ℕ) → slice_index_or numbers k none ≢ none → IsNumberAfter loads u k (slice_index_or numbers k none)

abbrev pub AreLoadUpdates : List Load → List LoadsAfter → Type 0
AreLoadUpdates loads known = (x : LoadsAfter) → Contains known x → AreNumbersAfter loads x.update x.numbers

-- at this place stands an update that makes the same of each load
pub record HasUpdateAt (u : Update) (kept : List LoadsAfter) (place : ℕ) : Type 0 where
  pub known : place < length kept
  pub is : (d : LoadsAfter) (x : Load) → load_after (slice_index_or kept place d).update x ≡ load_after u x

-- the number of the load of what is Live in a slot
pub record IsLoadIn (d : Domain) (slot k : ℕ) : Type 0 where
  pub place : SlotPlace
  pub at : IsSlotPlace d slot place
  pub row : place.row ≡ k + 1

-- The slot of a Live value has the first number, and the second one has that of what stands there then with the load that it gets.
pub record IsFoundWith (d : Domain) (slots : UsedSlots) (numbers : List ℕ) (x : Standing) (n m : ℕ) : Type 0 where
  pub slot : ℕ
  pub place : SlotPlace
  pub its : IsNumberOfSlot slots.used slot n
  pub at : IsSlotPlace d slot place
  pub live : place.row ≢ 0
  pub load : slice_index_or numbers (place.row - 1) none ≢ none
  pub there : IsNumberOfSlot slots.used (1 + (slice_index_or numbers (place.row - 1) none + 1) * slots.width + offset_after x place) m
