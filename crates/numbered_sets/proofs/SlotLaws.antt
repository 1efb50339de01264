-- Slots of values: where those at another block stand, and how they stay as more loads come in.
use Rattle.std.proofs.Common.{◌≡◌, ◌≢◌, ℕ, zero, suc, ◌+◌, ◌-◌, ◌*◌, ◌/◌, ◌%◌, ◌^◌, ◌<◌, Bool, false, List, [], ◌∷◌, ◌++◌, length, get_or, cond, refl, sym, ap, ap₂, subst, ◌∙◌, inl, inr, arith}
use Rattle.std.specs.{Prelude.{Option, Some, None, IfSome, IfNone}, List.{list_any}}
use Rattle.std.proofs.Math.{Nat.{div-lt_iff_lt-mul, add-mul}, Seq.{get_or-append_seam}}
use Rattle.std.proofs.lemmas.{Bool.{cases_lt}, Nat.{div-mul-add, mod-mul-add}, List.{append-nil, length-append, length-map, map-append, get_or-map, get_or_append_left}, Map.Views.{Contains-from_any}, Option.{IfSome_then}}
use Rattle.osek_values.specs.{Numbers.{block_no}, declared.{mask.Mask.{Mask}, numbers.BlockNo.{BlockNo}}}
use Rattle.abstract_state.specs.declared.value.{Val.{Val, TheVariants.{Suspended}}, SourceVal.{SourceVal}, Domain.{Domain}, PartValue.{PartValue, TheVariants.{OfTask, OfSource}}}
use Rattle.abstract_state.specs.declared.value.Domain.TheVariants as domain
use Rattle.abstract_state.specs.declared.value.SourceVal.TheVariants as source_val
use Rattle.abstract_state.specs.{Domains.{IsWithin}, ValueOrder.{same_part}}
use Rattle.abstract_state.proofs.OrderLaws.{part_right}
use Rattle.flow_model.specs.{declared.change.Update.TheVariants.{Block}, Values.{at_block, restacked_routine}, Tests.{updated}}
use Rattle.numbered_sets.specs.Pools.{Values, with_value, AreNumbered, IsNumberOf}
use Rattle.numbered_sets.specs.Slots.{val_in, source_in, value_in, slot_values, blocks_of, IsTaskSlot, IsSourceSlot, IsSlot, AreSlots, IsSlotInRow, IsTaskSlotOf, IsSourceSlotOf, IsSlotOf, AreMoreLoads}
use Rattle.numbered_sets.specs.{declared.{loads.Load.{Load}, slot_values.{BlockColumn.{BlockColumn}, SlotPlace.{SlotPlace}}}, SeenSlots.{AreSeen}}
use Rattle.numbered_sets.specs.Slots.{IsNumberOfSlot, IsUnused, IsSlotGiven, AreDistinct, UsedSlots, width_of, slot_width, IsColumnIn, IsBlockColumn, IsPlaceIn, IsSlotPlace}
use Rattle.numbered_sets.proofs.{PoolLaws.{numbered_with, seen_already}, ViewLaws.{false_unless}, TaskSlots.{row_known, some_block, in_other_block, row_stays}, SourceSlots.{task_slot, source_moved, load_stays, source_stays}}

abbrev pair_in : Option (BlockNo × ℕ) → BlockNo × ℕ
pair_in None = (block_no 0, 0)
pair_in (Some p) = p

pub of_task : (first : BlockNo) (count : ℕ) (takable : Mask) (activation : ℕ) (internal : Bool) (loads : List Load) (v : Val) (t : ℕ) → IsTaskSlotOf first.0 count loads v t → IsSlotOf (domain.Task first count activation internal takable) loads (OfTask v) t
of_task first count takable activation internal loads v t h = record {
  known = h.known;
  is = ap OfTask h.is;
  only = λ u known e. h.only u known (ap val_in_part e);
}
  where
    val_in_part : PartValue → Val
    val_in_part (OfTask w) = w
    val_in_part other = Suspended

pub tasks_slot : (first : BlockNo) (count activation : ℕ) (internal : Bool) (takable : Mask) (loads : List Load) (v : Val) (found : Option ℕ) → IfSome found (IsTaskSlotOf first.0 count loads v)
    → IfSome found (IsSlotOf (domain.Task first count activation internal takable) loads (OfTask v))
tasks_slot first count activation internal takable loads v found h = IfSome_then found h (λ t is. of_task first count takable activation internal loads v t is)

pub of_source : (first : BlockNo) (count : ℕ) (takable : Mask) (loads : List Load) (v : SourceVal) (t : ℕ) → IsSourceSlotOf first.0 count loads v t → IsSlotOf (domain.Source first count takable) loads (OfSource v) t
of_source first count takable loads v t h = record {
  known = h.known;
  is = ap OfSource h.is;
  only = λ u known e. h.only u known (ap source_in_part e);
}
  where
    source_in_part : PartValue → SourceVal
    source_in_part (OfSource w) = w
    source_in_part other = source_val.Out

module _ (slot : ℕ) (block : BlockNo) (loads : List Load) (found : Option ℕ) (distinct : AreDistinct loads) (some : slot ≡ 0 → ⊥) (small : block.0 < 2 ^ 16) where
  task_moved : (first : BlockNo) (count : ℕ) (takable : Mask) (activation : ℕ) (internal : Bool) → IsTaskSlot first.0 count loads slot → ((slot - 1) / count ≡ 0 → ⊥) → IfSome found (IsSlotInRow first.0 count ((slot - 1) / count) block.0)
      → IfSome found (IsSlotOf (domain.Task first count activation internal takable) loads (OfTask (at_block block (val_in first.0 count loads slot))))
  task_moved first count takable activation internal known live at = by_slot slot some known live at
    where
      by_slot : (s : ℕ) → (s ≡ 0 → ⊥) → IsTaskSlot first.0 count loads s → ((s - 1) / count ≡ 0 → ⊥) → IfSome found (IsSlotInRow first.0 count ((s - 1) / count) block.0)
          → IfSome found (IsSlotOf (domain.Task first count activation internal takable) loads (OfTask (at_block block (val_in first.0 count loads s))))
      by_slot zero some known live at = absurd (some refl)
      by_slot (suc n) some known live at =
          let row = (suc n - 1) / count in
          let same : row ≡ n / count = (let less : suc n - 1 ≡ n = omega arith in ap (λ (m : ℕ). m / count) less) in
          let below = row_known n (1 + length loads) count known.0 in
          IfSome_then found (in_other_block first.0 count row n block loads found same distinct (omega (arith, below, same)) live small at)
          (λ t h. of_task first count takable activation internal loads (at_block block (val_in first.0 count loads (suc n))) t h)

  routine_moved : (first : BlockNo) (count : ℕ) (takable : Mask) → IsSourceSlot first.0 count loads slot → IfSome found (IsSlotInRow first.0 count ((slot - 1) / count) block.0)
      → IfSome found (IsSlotOf (domain.Source first count takable) loads (OfSource (restacked_routine (λ h. h) block (source_in first.0 count loads slot))))
  routine_moved first count takable known at = by_slot slot some known at
    where
      by_slot : (s : ℕ) → (s ≡ 0 → ⊥) → IsSourceSlot first.0 count loads s → IfSome found (IsSlotInRow first.0 count ((s - 1) / count) block.0)
          → IfSome found (IsSlotOf (domain.Source first count takable) loads (OfSource (restacked_routine (λ h. h) block (source_in first.0 count loads s))))
      by_slot zero some known at = absurd (some refl)
      by_slot (suc n) some known at =
          let less : suc n - 1 ≡ n = omega arith in
          let in_row = subst (λ (m : ℕ). IfSome found (IsSlotInRow first.0 count (m / count) block.0)) less at in
          IfSome_then found (source_moved first.0 count loads n block found distinct known small in_row) (λ t h. of_source first count takable loads (restacked_routine (λ h. h) block (source_in first.0 count loads (suc n))) t h)

  -- the slot of what a value that has a stack becomes at a block
  pub slot_moved : (d : Domain) (first : BlockNo) (count : ℕ) → blocks_of d ≡ Some (first, count) → IsSlot d loads slot → ((slot - 1) / count ≡ 0 → ⊥) → IfSome found (IsSlotInRow first.0 count ((slot - 1) / count) block.0)
      → IfSome found (IsSlotOf d loads (updated (Block block) (value_in d loads slot)))
  slot_moved (domain.Task first count activation internal takable) first_of count_of is known live at =
      let same : (first_of, count_of) ≡ (first, count) = sym (ap pair_in is) in
      task_moved first count takable activation internal known (subst (λ (p : BlockNo × ℕ). (slot - 1) / p.1 ≡ 0 → ⊥) same live)
      (subst (λ (p : BlockNo × ℕ). IfSome found (IsSlotInRow p.0.0 p.1 ((slot - 1) / p.1) block.0)) same at)
  slot_moved domain.Event first_of count_of is known live at = absurd (cc)
  slot_moved domain.Alarm first_of count_of is known live at = absurd (cc)
  slot_moved (domain.Source first count takable) first_of count_of is known live at =
      let same : (first_of, count_of) ≡ (first, count) = sym (ap pair_in is) in
      routine_moved first count takable known (subst (λ (p : BlockNo × ℕ). IfSome found (IsSlotInRow p.0.0 p.1 ((slot - 1) / p.1) block.0)) same at)

-- ---- slots by column and row

pub as_many : (o : Option (BlockNo × ℕ)) (first : BlockNo) (count : ℕ) → o ≡ Some (first, count) → 0 < count → width_of o ≡ count
as_many o first count is some = ap width_of is ∙ by_count count some
  where
    by_count : (n : ℕ) → 0 < n → width_of (Some (first, n)) ≡ n
    by_count zero some = absurd (omega (arith, some))
    by_count (suc n) some = refl

-- what tells a column and a place
pub column_there : (d : Domain) (first : BlockNo) (count : ℕ) (slot : ℕ) (c : BlockColumn) → blocks_of d ≡ Some (first, count) → c.column < count → c.block.0 < 2 ^ 16 → IsSlotInRow first.0 count 0 c.block.0 slot
    → c.row * count + c.column ≡ slot → IsBlockColumn d c
column_there d first count slot c is low small at same = subst (λ (o : Option (BlockNo × ℕ)). IsColumnIn o c) (sym is) (low, small, subst (IsSlotInRow first.0 count 0 c.block.0) (sym same) at)

pub place_there : (d : Domain) (first : BlockNo) (count : ℕ) (slot : ℕ) (p : SlotPlace) → blocks_of d ≡ Some (first, count) → p.offset < count → slot ≡ 1 + p.row * count + p.offset → IsSlotPlace d slot p
place_there d first count slot p is lt same = subst (λ (o : Option (BlockNo × ℕ)). IsPlaceIn o slot p) (sym is) (lt, same)

-- the block of a slot has a number of 16 bits
block_small : (first count : ℕ) (loads : List Load) (s : ℕ) → 0 < s → IsTaskSlot first count loads s → first + (s - 1) % count < 2 ^ 16
block_small first count loads zero some known = absurd (omega (arith, some))
block_small first count loads (suc n) some known = (let less : n ≡ suc n - 1 = omega arith in subst (λ (m : ℕ). first + m % count < 2 ^ 16) less known.1)

module _ (d : Domain) (first : BlockNo) (count width slot : ℕ) (loads : List Load) (p : SlotPlace) (distinct : AreDistinct loads) (known : IsSlot d loads slot) (wide : width ≡ slot_width d) (is : blocks_of d ≡ Some (first, count))
    (its_blocks : IsTaskSlot first.0 count loads slot) (at : IsPlaceIn (Some (first, count)) slot p) (live : p.row ≡ 0 → ⊥) where
  behind : slot - 1 ≡ p.row * count + p.offset
  behind = omega (arith, at.1)

  row_of_place : (slot - 1) / count ≡ p.row
  row_of_place = ap (λ (m : ℕ). m / count) behind ∙ div-mul-add p.row count p.offset at.0

  offset_of_place : (slot - 1) % count ≡ p.offset
  offset_of_place = ap (λ (m : ℕ). m % count) behind ∙ mod-mul-add p.row count p.offset at.0

  block_of_place : first.0 + p.offset < 2 ^ 16
  block_of_place = (let small = block_small first.0 count loads slot (omega (arith, at.1)) its_blocks in omega (arith, small, offset_of_place))

  as_wide : width ≡ count
  as_wide = wide ∙ as_many (blocks_of d) first count is (omega (arith, at.0))

  moved_in_row : (block : BlockNo) (t : ℕ) → block.0 < 2 ^ 16 → IsSlotInRow first.0 count p.row block.0 t → value_in d loads t ≡ updated (Block block) (value_in d loads slot)
  moved_in_row block t small there =
      (slot_moved slot block loads (Some t) distinct (λ e. omega (arith, e, at.1)) small d first count is known (λ e. live (sym row_of_place ∙ e))
      (subst (λ (r : ℕ). IsSlotInRow first.0 count r block.0 t) (sym row_of_place) there)).is

  moved_to_column : (c : BlockColumn) → IsColumnIn (Some (first, count)) c → value_in d loads ((c.row + p.row) * width + c.column) ≡ updated (Block c.block) (value_in d loads slot)
  moved_to_column c column =
      let sum : (c.row + p.row) * width ≡ c.row * count + p.row * count = ap (λ (w : ℕ). (c.row + p.row) * w) as_wide ∙ add-mul c.row p.row count in
      let there = column.2 in
      moved_in_row c.block ((c.row + p.row) * width + c.column) column.1 (record { low = there.low; high = there.high; is = omega (arith, sum, there.is) })

  moved_to_before : (p.offset ≡ 0 → ⊥) → (b : BlockNo) × (value_in d loads (p.row * width + p.offset) ≡ updated (Block b) (value_in d loads slot))
  moved_to_before later =
      let product : p.row * width ≡ p.row * count = ap (λ (w : ℕ). p.row * w) as_wide in
      let block = block_no (first.0 + p.offset - 1) in (
        block,
        moved_in_row block (p.row * width + p.offset) (omega (arith, block_of_place)) (record { low = omega (arith, later); high = omega (arith, at.0, later); is = omega (arith, product, later) }),
      )

  moved_beside : (t : ℕ) (q : SlotPlace) → IsTaskSlot first.0 count loads t → IsPlaceIn (Some (first, count)) t q → q.row ≡ p.row → (b : BlockNo) × (value_in d loads t ≡ updated (Block b) (value_in d loads slot))
  moved_beside t q its_too there same =
      let before : t - 1 ≡ q.row * count + q.offset = omega (arith, there.1) in
      let rest : (t - 1) % count ≡ q.offset = ap (λ (m : ℕ). m % count) before ∙ mod-mul-add q.row count q.offset there.0 in
      let small = block_small first.0 count loads t (omega (arith, there.1)) its_too in
      let product : q.row * count ≡ p.row * count = ap (λ (r : ℕ). r * count) same in
      let block = block_no (first.0 + q.offset) in (
        block,
        moved_in_row block t (omega (arith, small, rest)) (record { low = omega arith; high = omega (arith, there.0); is = omega (arith, there.1, product) }),
      )

-- the slot in a block's column and the row of a Live one
pub moved_in_column : (d : Domain) (width slot : ℕ) (loads : List Load) (p : SlotPlace) (c : BlockColumn) → AreDistinct loads → IsSlot d loads slot → width ≡ slot_width d → IsSlotPlace d slot p → (p.row ≡ 0 → ⊥) → IsBlockColumn d c
    → value_in d loads ((c.row + p.row) * width + c.column) ≡ updated (Block c.block) (value_in d loads slot)
moved_in_column (domain.Task first count activation internal takable) width slot loads p c distinct known wide at live column =
    moved_to_column (domain.Task first count activation internal takable) first count width slot loads p distinct known wide refl known at live c column
moved_in_column domain.Event width slot loads p c distinct known wide at live column = absurd at
moved_in_column domain.Alarm width slot loads p c distinct known wide at live column = absurd at
moved_in_column (domain.Source first count takable) width slot loads p c distinct known wide at live column =
    moved_to_column (domain.Source first count takable) first count width slot loads p distinct known wide refl (task_slot first.0 count loads slot known) at live c column

-- the slot before a Live one in its row
pub moved_before : (d : Domain) (width slot : ℕ) (loads : List Load) (p : SlotPlace) → AreDistinct loads → IsSlot d loads slot → width ≡ slot_width d → IsSlotPlace d slot p → (p.row ≡ 0 → ⊥) → (p.offset ≡ 0 → ⊥)
    → (b : BlockNo) × (value_in d loads (p.row * width + p.offset) ≡ updated (Block b) (value_in d loads slot))
moved_before (domain.Task first count activation internal takable) width slot loads p distinct known wide at live later =
    moved_to_before (domain.Task first count activation internal takable) first count width slot loads p distinct known wide refl known at live later
moved_before domain.Event width slot loads p distinct known wide at live later = absurd at
moved_before domain.Alarm width slot loads p distinct known wide at live later = absurd at
moved_before (domain.Source first count takable) width slot loads p distinct known wide at live later =
    moved_to_before (domain.Source first count takable) first count width slot loads p distinct known wide refl (task_slot first.0 count loads slot known) at live later

-- another slot in the row of a Live one
pub moved_beside_it : (d : Domain) (width slot t : ℕ) (loads : List Load) (p q : SlotPlace) → AreDistinct loads → IsSlot d loads slot → IsSlot d loads t → width ≡ slot_width d → IsSlotPlace d slot p → IsSlotPlace d t q → (p.row ≡ 0 → ⊥) → q.row ≡ p.row
    → (b : BlockNo) × (value_in d loads t ≡ updated (Block b) (value_in d loads slot))
moved_beside_it (domain.Task first count activation internal takable) width slot t loads p q distinct known known_too wide at there live same =
    moved_beside (domain.Task first count activation internal takable) first count width slot loads p distinct known wide refl known at live t q known_too there same
moved_beside_it domain.Event width slot t loads p q distinct known known_too wide at there live same = absurd at
moved_beside_it domain.Alarm width slot t loads p q distinct known known_too wide at there live same = absurd at
moved_beside_it (domain.Source first count takable) width slot t loads p q distinct known known_too wide at there live same =
    moved_beside (domain.Source first count takable) first count width slot loads p distinct known wide refl (task_slot first.0 count loads slot known) at live t q (task_slot first.0 count loads t known_too) there same

-- ---- slots as more loads come in

task_slot_stays : (first count : ℕ) (loads more : List Load) (s : ℕ) → IsTaskSlot first count loads s → IsTaskSlot first count (loads ++ more) s
task_slot_stays first count loads more zero known = tt
task_slot_stays first count loads more (suc n) known =
    let below = row_known n (1 + length loads) count known.0 in
    ((div-lt_iff_lt-mul {k = count} {x = n} {y = 1 + length (loads ++ more)} (some_block n (1 + length loads) count known.0)).0 (omega (arith, below, length-append loads more)), known.1)

slot_stays : (d : Domain) (loads more : List Load) (s : ℕ) → IsSlot d loads s → IsSlot d (loads ++ more) s
slot_stays (domain.Task first count activation internal takable) loads more s known = task_slot_stays first.0 count loads more s known
slot_stays domain.Event loads more s known = known
slot_stays domain.Alarm loads more s known = known
slot_stays (domain.Source first count takable) loads more zero known = tt
slot_stays (domain.Source first count takable) loads more (suc n) known = (known.0, load_stays first.0 count loads more n known, task_slot_stays first.0 count loads more (suc n) known.2)

value_stays : (d : Domain) (loads more : List Load) (s : ℕ) → IsSlot d loads s → value_in d (loads ++ more) s ≡ value_in d loads s
value_stays (domain.Task first count activation internal takable) loads more zero known = refl
value_stays (domain.Task first count activation internal takable) loads more (suc n) known = ap OfTask (row_stays loads more (n / count) (block_no (first.0 + n % count)) (row_known n (1 + length loads) count known.0))
value_stays domain.Event loads more s known = refl
value_stays domain.Alarm loads more s known = refl
value_stays (domain.Source first count takable) loads more zero known = refl
value_stays (domain.Source first count takable) loads more (suc n) known = ap OfSource (source_stays first.0 count loads more n known)

pub slots_stay : (d : Domain) (loads after : List Load) (slots : List ℕ) → AreMoreLoads loads after → AreSlots d loads slots → AreSlots d after slots
slots_stay d loads after slots grown known = record {
  each = λ n e lt. subst (λ (all : List Load). IsSlot d all (get_or slots n e)) (sym grown.is) (slot_stays d loads grown.more (get_or slots n e) (known.each n e lt));
}

values_stay_with : (d : Domain) (loads more : List Load) (slots : List ℕ) → AreSlots d loads slots → slot_values d (loads ++ more) slots ≡ slot_values d loads slots
values_stay_with d loads more [] known = refl
values_stay_with d loads more (s ∷ ss) known =
    ap₂ (λ (v : PartValue) (vs : List PartValue). v ∷ vs) (value_stays d loads more s (known.each 0 0 (omega arith)))
    (values_stay_with d loads more ss (record { each = λ n e lt. known.each (suc n) e (omega (arith, lt)) }))

pub values_stay : (d : Domain) (loads after : List Load) (slots : List ℕ) → AreMoreLoads loads after → AreSlots d loads slots → slot_values d after slots ≡ slot_values d loads slots
values_stay d loads after slots grown known = ap (λ (all : List Load). slot_values d all slots) grown.is ∙ values_stay_with d loads grown.more slots known

-- ---- values by number

pub value_numbered : (d : Domain) (loads : List Load) (slots : List ℕ) (s n : ℕ) (v : PartValue) → IsNumberOfSlot slots s n → value_in d loads s ≡ v → IsNumberOf (slot_values d loads slots) v n
value_numbered d loads slots s n v place is = record {
  known = omega (arith, place.known, length-map slots (value_in d loads));
  is = λ w. get_or-map (value_in d loads) slots n 0 w place.known ∙ ap (value_in d loads) (place.is 0) ∙ is;
}

pub some_number : (d : Domain) (loads : List Load) (slots : List ℕ) (s : ℕ) (v : PartValue) (found : Option ℕ) → IfSome found (IsNumberOfSlot slots s) → value_in d loads s ≡ v → IfSome found (IsNumberOf (slot_values d loads slots) v)
some_number d loads slots s v None at is = tt
some_number d loads slots s v (Some n) at is = value_numbered d loads slots s n v at is

-- the number of what becomes of a value, by its slot
pub moved_number : (d : Domain) (loads : List Load) (slots : List ℕ) (becomes : PartValue → PartValue) (s t n : ℕ) (found : Option ℕ) → IsNumberOfSlot slots s n → value_in d loads t ≡ becomes (value_in d loads s) → IfSome found (IsNumberOfSlot slots t)
    → IfSome found (λ m. (v : PartValue) → IsNumberOf (slot_values d loads slots) v n → IsNumberOf (slot_values d loads slots) (becomes v) m)
moved_number d loads slots becomes s t n None at is there = tt
moved_number d loads slots becomes s t n (Some m) at is there = λ v number.
    let same : value_in d loads s ≡ v = sym ((value_numbered d loads slots s n (value_in d loads s) at refl).is v) ∙ number.is v in
    value_numbered d loads slots t m (becomes v) there (is ∙ ap becomes same)

pub value_beside : (d : Domain) (loads : List Load) (slots : List ℕ) (s t n m : ℕ) (b : BlockNo) → IsNumberOfSlot slots s n → IsNumberOfSlot slots t m → value_in d loads t ≡ updated (Block b) (value_in d loads s)
    → (v : PartValue) → IsNumberOf (slot_values d loads slots) v n → (c : BlockNo) × IsNumberOf (slot_values d loads slots) (updated (Block c) v) m
value_beside d loads slots s t n m b at there is v number = (b, moved_number d loads slots (updated (Block b)) s t n (Some m) at is there v number)

-- a value that no slot has is none of them
pub value_absent : (d : Domain) (loads : List Load) (slots : List ℕ) (v : PartValue) → ((n : ℕ) → n < length slots → value_in d loads (get_or slots n 0) ≡ v → ⊥) → list_any (same_part v) (slot_values d loads slots) ≡ false
value_absent d loads slots v none = false_unless (list_any (same_part v) (slot_values d loads slots)) ⊥
    (λ any.
    let there = Contains-from_any part_right v (slot_values d loads slots) any in
    let lt : there.0 < length slots = omega (arith, there.1, length-map slots (value_in d loads)) in
    none there.0 lt (sym (get_or-map (value_in d loads) slots there.0 0 v lt) ∙ there.2))
    (λ no. no)

pub value_without_slot : (d : Domain) (loads : List Load) (slots : List ℕ) (v : PartValue) → AreSlots d loads slots → ((s : ℕ) → IsSlot d loads s → value_in d loads s ≢ v) → list_any (same_part v) (slot_values d loads slots) ≡ false
value_without_slot d loads slots v known none = value_absent d loads slots v (λ n lt e. none (get_or slots n 0) (known.each n 0 lt) e)

-- neither is one whose slot has no number
pub value_unused : (d : Domain) (loads : List Load) (slots : List ℕ) (s : ℕ) (v : PartValue) → AreSlots d loads slots → IsUnused slots s → IsSlotOf d loads v s → list_any (same_part v) (slot_values d loads slots) ≡ false
value_unused d loads slots s v known unused slot =
    value_absent d loads slots v (λ n lt e. unused.each n 0 lt (slot.only (get_or slots n 0) (known.each n 0 lt) e))

pub none_found : (d : Domain) (loads : List Load) (slots : List ℕ) (s : ℕ) (v : PartValue) (found : Option ℕ) → AreSlots d loads slots → IfNone found (IsUnused slots s) → IsSlotOf d loads v s → IfNone found (list_any (same_part v) (slot_values d loads slots) ≡ false)
none_found d loads slots s v (Some n) known unused slot = tt
none_found d loads slots s v None known unused slot = value_unused d loads slots s v known unused slot

-- a slot comes in last
pub value_pushed : (d : Domain) (loads : List Load) (slots : List ℕ) (s : ℕ) (v : PartValue) → list_any (same_part v) (slot_values d loads slots) ≡ false → value_in d loads s ≡ v → slot_values d loads (slots ++ s ∷ []) ≡ with_value (slot_values d loads slots) v
value_pushed d loads slots s v new is =
    map-append (value_in d loads) slots (s ∷ []) ∙ ap (λ (w : PartValue). slot_values d loads slots ++ w ∷ []) is
    ∙ sym (ap (λ (b : Bool). cond b (slot_values d loads slots) (slot_values d loads slots ++ v ∷ [])) new)

pub slots_pushed : (d : Domain) (loads : List Load) (slots : List ℕ) (s : ℕ) → AreSlots d loads slots → IsSlot d loads s → AreSlots d loads (slots ++ s ∷ [])
slots_pushed d loads slots s known its = record {
  each = λ n e lt. elim (cases_lt n (length slots)) [
    | inl before ↦ subst (IsSlot d loads) (sym (get_or_append_left slots (s ∷ []) e n before)) (known.each n e before)
    | inr le ↦
        (let last : n ≡ length slots = omega (arith, lt, le, length-append slots (s ∷ [])) in
        subst (IsSlot d loads) (sym (ap (λ (k : ℕ). get_or (slots ++ s ∷ []) k e) last ∙ get_or-append_seam slots s [] e)) its)
  ];
}

pub seen_stay : (d : Domain) (loads after : List Load) (slots : UsedSlots) → AreMoreLoads loads after → AreSeen d loads slots → AreSeen d after slots
seen_stay d loads after slots grown h = record {
  numbered = subst (AreNumbered d) (sym (values_stay d loads after slots.used grown h.known)) h.numbered;
  known = slots_stay d loads after slots.used grown h.known;
  wide = h.wide;
}

module _ (d : Domain) (loads after : List Load) (slots more : UsedSlots) (s : ℕ) (v : PartValue) (grown : AreMoreLoads loads after) (h : AreSeen d loads slots) (slot : IsSlotOf d after v s) (unused : IsUnused slots.used s)
    (pushed : more.used ≡ slots.used ++ s ∷ []) where
  pub values_pushed : slot_values d after more.used ≡ with_value (slot_values d loads slots.used) v
  values_pushed =
      ap (slot_values d after) pushed ∙ value_pushed d after slots.used s v (value_unused d after slots.used s v (slots_stay d loads after slots.used grown h.known) unused slot) slot.is
      ∙ ap (λ (vs : List PartValue). with_value vs v) (values_stay d loads after slots.used grown h.known)

  pub seen_pushed : more.width ≡ slots.width → IsWithin d v → AreSeen d after more
  seen_pushed kept within = record {
    numbered = subst (AreNumbered d) (sym values_pushed) (numbered_with d (slot_values d loads slots.used) v h.numbered within);
    known = subst (AreSlots d after) (sym pushed) (slots_pushed d after slots.used s (slots_stay d loads after slots.used grown h.known) slot.known);
    wide = kept ∙ h.wide;
  }

-- a slot with a number stays, and another comes in last
module _ (d : Domain) (loads after : List Load) (slots more : UsedSlots) (s n : ℕ) (v : PartValue) (grown : AreMoreLoads loads after) (h : AreSeen d loads slots) (slot : IsSlotOf d after v s) (given : IsSlotGiven slots.used s more.used)
    (place : IsNumberOfSlot more.used s n) where
  pub given_values : slot_values d after more.used ≡ with_value (slot_values d loads slots.used) v
  given_values = elim given [
    | inl same ↦
        (let stay = values_stay d loads after slots.used grown h.known in
        let vs = slot_values d loads slots.used in
        let there : IsNumberOf vs v n = subst (λ (ws : List PartValue). IsNumberOf ws v n) stay (value_numbered d after slots.used s n v (subst (λ (us : List ℕ). IsNumberOfSlot us s n) same place) slot.is) in
        ap (slot_values d after) same ∙ stay ∙ sym (ap (λ (x : Values). x.values) (seen_already (record { domain = d; values = vs }) v n there)))
    | inr new ↦ values_pushed d loads after slots more s v grown h slot new.0 new.1
  ]

  pub given_seen : more.width ≡ slots.width → IsWithin d v → AreSeen d after more
  given_seen kept within = elim given [
    | inl same ↦
        (let stay = seen_stay d loads after slots grown h in
        record {
          numbered = subst (λ (us : List ℕ). AreNumbered d (slot_values d after us)) (sym same) stay.numbered;
          known = subst (AreSlots d after) (sym same) stay.known;
          wide = kept ∙ h.wide;
        })
    | inr new ↦ seen_pushed d loads after slots more s v grown h slot new.0 new.1 kept within
  ]

  pub given_number : IsNumberOf (slot_values d after more.used) v n
  given_number = value_numbered d after more.used s n v place slot.is

pub same_loads : (loads : List Load) → AreMoreLoads loads loads
same_loads loads = record { more = []; is = sym (append-nil loads) }
