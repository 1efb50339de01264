-- Slots of what updates make of values, by the loads that they make of loads.
use Rattle.std.proofs.Common.{◌≡◌, ℕ, zero, suc, ◌+◌, ◌-◌, ◌*◌, ◌/◌, ◌%◌, ◌^◌, ◌<◌, Bool, true, List, length, get_or, refl, sym, ap, ap₂, subst, ◌∙◌, arith}
use Rattle.std.specs.Prelude.{Option, Some, None}
use Rattle.std.proofs.lemmas.Nat.{div-mul-add, mod-mul-add}
use Rattle.osek_values.specs.{Numbers.{block_no}, declared.{mask.Mask.{Mask}, numbers.{BlockNo.{BlockNo}, ResNo.{ResNo}}}}
use Rattle.abstract_state.specs.declared.value.{Val.{Val, TheVariants.{Live}}, SourceVal.{SourceVal}, Domain.{Domain}, PartValue.{PartValue, TheVariants.{OfTask, OfSource}}}
use Rattle.abstract_state.specs.declared.value.Domain.TheVariants as domain
use Rattle.abstract_state.specs.declared.value.SourceVal.TheVariants as source_val
use Rattle.abstract_state.specs.Components.{routine_val}
use Rattle.flow_model.specs.{declared.change.Update.{Update}, Tests.{updated}}
use Rattle.flow_model.specs.declared.change.Update.TheVariants as update
use Rattle.numbered_sets.specs.declared.{loads.Load.{Load}, slot_values.{SlotPlace.{SlotPlace}, Standing.{Standing, TheVariants.{At, Own}}}}
use Rattle.numbered_sets.specs.{Pools.{IsNumberOf}, SeenSlots.{AreSeen}}
use Rattle.numbered_sets.specs.Slots.{no_load, none, load_of, routine_load, carrying, in_row, in_source_row, val_in, source_in, value_in, slot_values, slot_width, width_of, UsedSlots}
use Rattle.numbered_sets.specs.Slots.{IsRoutineLoad, IsTaskSlot, IsSourceSlot, IsSlot, IsSlotInRow, IsTaskSlotOf, IsSourceSlotOf, IsSlotOf, IsLoadNumber, AreDistinct, IsPlaceIn, IsSlotPlace}
use Rattle.numbered_sets.specs.LoadUpdates.{load_after, named_block, block_or, changes_task_load, changes_stack, changes_load, offset_after, IsStandingIn, IsStandingAfter, IsNumberAfter, AreNumbersAfter, IsLoadIn, IsFoundWith}
use Rattle.numbered_sets.proofs.{TaskSlots.{row_known, live_slot}, SourceSlots.{routine_slot}, SlotLaws.{of_task, of_source, as_many, moved_number}}

-- ---- what updates make of what is Live

task_updated : (u : Update) (b : BlockNo) (x : Load) → changes_task_load u ≡ true → updated u (OfTask (Live (carrying b x))) ≡ OfTask (Live (carrying (block_or (named_block u) b) (load_after u x)))
task_updated (update.Set w) b x e = absurd (cc)
task_updated (update.Block c) b x e = absurd (cc)
task_updated (update.Take r c) b x e = refl
task_updated (update.Give c) b x e = refl
task_updated update.More b x e = refl
task_updated (update.Again c) b x e = refl
task_updated (update.Leave c) b x e = refl
task_updated update.Inside b x e = refl
task_updated (update.Release r) b x e = absurd (cc)

routine_updated : (u : Update) (b : BlockNo) (x : Load) → changes_stack u ≡ true
    → updated u (OfSource (source_val.In (routine_val b x.held))) ≡ OfSource (source_val.In (routine_val (block_or (named_block u) b) (load_after u x).held))
routine_updated (update.Set w) b x e = absurd (cc)
routine_updated (update.Block c) b x e = absurd (cc)
routine_updated (update.Take r c) b x e = refl
routine_updated (update.Give c) b x e = refl
routine_updated update.More b x e = absurd (cc)
routine_updated (update.Again c) b x e = absurd (cc)
routine_updated (update.Leave c) b x e = absurd (cc)
routine_updated update.Inside b x e = absurd (cc)
routine_updated (update.Release r) b x e = absurd (cc)

bare_after : (u : Update) (x : Load) → changes_stack u ≡ true → IsRoutineLoad x → IsRoutineLoad (load_after u x)
bare_after (update.Set w) x e h = absurd (cc)
bare_after (update.Block c) x e h = absurd (cc)
bare_after (update.Take r c) x e h = h
bare_after (update.Give c) x e h = h
bare_after update.More x e h = absurd (cc)
bare_after (update.Again c) x e h = absurd (cc)
bare_after (update.Leave c) x e h = absurd (cc)
bare_after update.Inside x e h = absurd (cc)
bare_after (update.Release r) x e h = absurd (cc)

-- ---- what is Live in a slot

live_in_row : (loads : List Load) (r : ℕ) (b : BlockNo) → (r ≡ 0 → ⊥) → in_row loads r b ≡ Live (carrying b (get_or loads (r - 1) no_load))
live_in_row loads zero b live = absurd (live refl)
live_in_row loads (suc k) b live = (let less : k ≡ suc k - 1 = omega arith in ap (λ (j : ℕ). Live (carrying b (get_or loads j no_load))) less)

routine_in_row : (loads : List Load) (r : ℕ) (b : BlockNo) → (r ≡ 0 → ⊥) → in_source_row loads r b ≡ source_val.In (routine_val b (get_or loads (r - 1) no_load).held)
routine_in_row loads zero b live = absurd (live refl)
routine_in_row loads (suc k) b live = (let less : k ≡ suc k - 1 = omega arith in ap (λ (j : ℕ). source_val.In (routine_val b (get_or loads j no_load).held)) less)

module _ (first count : ℕ) (loads : List Load) (n : ℕ) (p : SlotPlace) (short : p.offset < count) (behind : n ≡ p.row * count + p.offset) where
  its_row : n / count ≡ p.row
  its_row = ap (λ (i : ℕ). i / count) behind ∙ div-mul-add p.row count p.offset short

  its_offset : n % count ≡ p.offset
  its_offset = ap (λ (i : ℕ). i % count) behind ∙ mod-mul-add p.row count p.offset short

  its_live : (p.row ≡ 0 → ⊥) → val_in first count loads (suc n) ≡ Live (carrying (block_no (first + p.offset)) (get_or loads (p.row - 1) no_load))
  its_live live = ap₂ (λ (r o : ℕ). in_row loads r (block_no (first + o))) its_row its_offset ∙ live_in_row loads p.row (block_no (first + p.offset)) live

  its_routine : (p.row ≡ 0 → ⊥) → source_in first count loads (suc n) ≡ source_val.In (routine_val (block_no (first + p.offset)) (get_or loads (p.row - 1) no_load).held)
  its_routine live = ap₂ (λ (r o : ℕ). in_source_row loads r (block_no (first + o))) its_row its_offset ∙ routine_in_row loads p.row (block_no (first + p.offset)) live

-- what is known of a slot behind the first one
record IsLiveSlot (first count : ℕ) (loads : List Load) (s : ℕ) (p : SlotPlace) : Type 0 where
  row : p.row < 1 + length loads
  small : first + p.offset < 2 ^ 16
  is : val_in first count loads s ≡ Live (carrying (block_no (first + p.offset)) (get_or loads (p.row - 1) no_load))

live_there : (first count : ℕ) (loads : List Load) (s : ℕ) (p : SlotPlace) → p.offset < count → s ≡ 1 + p.row * count + p.offset → (p.row ≡ 0 → ⊥) → IsTaskSlot first count loads s → IsLiveSlot first count loads s p
live_there first count loads zero p short at live known = absurd (omega (arith, at))
live_there first count loads (suc n) p short at live known =
    let behind : n ≡ p.row * count + p.offset = omega (arith, at) in
    record {
      row = subst (λ (r : ℕ). r < 1 + length loads) (its_row first count loads n p short behind) (row_known n (1 + length loads) count known.0);
      small = subst (λ (o : ℕ). first + o < 2 ^ 16) (its_offset first count loads n p short behind) known.1;
      is = its_live first count loads n p short behind live;
    }

record IsRoutineSlot (first count : ℕ) (loads : List Load) (s : ℕ) (p : SlotPlace) : Type 0 where
  row : p.row < 1 + length loads
  small : first + p.offset < 2 ^ 16
  bare : IsRoutineLoad (get_or loads (p.row - 1) no_load)
  is : source_in first count loads s ≡ source_val.In (routine_val (block_no (first + p.offset)) (get_or loads (p.row - 1) no_load).held)

routine_there : (first count : ℕ) (loads : List Load) (s : ℕ) (p : SlotPlace) → p.offset < count → s ≡ 1 + p.row * count + p.offset → (p.row ≡ 0 → ⊥) → IsSourceSlot first count loads s → IsRoutineSlot first count loads s p
routine_there first count loads zero p short at live known = absurd (omega (arith, at))
routine_there first count loads (suc n) p short at live known =
    let behind : n ≡ p.row * count + p.offset = omega (arith, at) in
    let task = live_there first count loads (suc n) p short at live known.2 in
    record {
      row = task.row;
      small = task.small;
      bare = subst (λ (r : ℕ). IsRoutineLoad (get_or loads (r - 1) no_load)) (its_row first count loads n p short behind) known.1;
      is = its_routine first count loads n p short behind live;
    }

-- ---- the slot of what becomes of it

standing_block : (first : BlockNo) (count : ℕ) (to : Option BlockNo) (x : Standing) (p : SlotPlace) → IsStandingIn (Some (first, count)) to x → block_or to (block_no (first.0 + p.offset)) ≡ block_no (first.0 + offset_after x p)
standing_block first count None Own p h = refl
standing_block first count None (At o) p h = absurd h
standing_block first count (Some b) Own p h = absurd h
standing_block first count (Some b) (At o) p h = ap block_no h.1

standing_short : (first : BlockNo) (count : ℕ) (to : Option BlockNo) (x : Standing) (p : SlotPlace) → p.offset < count → IsStandingIn (Some (first, count)) to x → offset_after x p < count
standing_short first count None Own p short h = short
standing_short first count None (At o) p short h = absurd h
standing_short first count (Some b) Own p short h = absurd h
standing_short first count (Some b) (At o) p short h = h.0

standing_small : (first : BlockNo) (count : ℕ) (to : Option BlockNo) (x : Standing) (p : SlotPlace) → first.0 + p.offset < 2 ^ 16 → IsStandingIn (Some (first, count)) to x → first.0 + offset_after x p < 2 ^ 16
standing_small first count None Own p small h = small
standing_small first count None (At o) p small h = absurd h
standing_small first count (Some b) Own p small h = absurd h
standing_small first count (Some b) (At o) p small h = omega (arith, h.1, h.2)

in_row_of : (first : BlockNo) (count o m t : ℕ) → o < count → t ≡ 1 + (m + 1) * count + o → IsSlotInRow first.0 count (m + 1) (first.0 + o) t
in_row_of first count o m t short is = record { low = omega arith; high = omega (arith, short); is = omega (arith, is) }

abbrev load_with : ℕ → Bool → List ResNo → Load
load_with further inside held = record { further = further; inside = inside; held = held }

module _ (loads : List Load) (distinct : AreDistinct loads) (u : Update) (s t m : ℕ) (p : SlotPlace) (x : Standing) (live : p.row ≡ 0 → ⊥) (after : IsNumberAfter loads u (p.row - 1) m) where
  task_slot_after : (first : BlockNo) (count : ℕ) (takable : Mask) (activation : ℕ) (internal : Bool) → IsTaskSlot first.0 count loads s → IsPlaceIn (Some (first, count)) s p → changes_task_load u ≡ true → IsStandingIn (Some (first, count)) (named_block u) x
      → t ≡ 1 + (m + 1) * count + offset_after x p → IsSlotOf (domain.Task first count activation internal takable) loads (updated u (OfTask (val_in first.0 count loads s))) t
  task_slot_after first count takable activation internal known at changes standing is =
      let to = named_block u in
      let o = offset_after x p in
      let there = live_there first.0 count loads s p at.0 at.1 live known in
      let y = carrying (block_no (first.0 + o)) (get_or loads m no_load) in
      let number : IsLoadNumber loads (load_of y) m = record { known = after.there; is = refl; only = λ j lt e. distinct.each j m lt after.there e } in
      let row = in_row_of first count o m t (standing_short first count to x p at.0 standing) is in
      let its : IsTaskSlotOf first.0 count loads (Live y) t = live_slot first.0 count loads y m (Some t) number (standing_small first count to x p there.small standing) row in
      let becomes : updated u (OfTask (val_in first.0 count loads s)) ≡ OfTask (Live y) =
      ap (λ (v : Val). updated u (OfTask v)) there.is ∙ task_updated u (block_no (first.0 + p.offset)) (get_or loads (p.row - 1) no_load) changes
      ∙ ap₂ (λ (b : BlockNo) (z : Load). OfTask (Live (carrying b z))) (standing_block first count to x p standing) (sym after.is) in
      subst (λ (v : PartValue). IsSlotOf (domain.Task first count activation internal takable) loads v t) (sym becomes) (of_task first count takable activation internal loads (Live y) t its)

  routine_slot_after : (first : BlockNo) (count : ℕ) (takable : Mask) → IsSourceSlot first.0 count loads s → IsPlaceIn (Some (first, count)) s p → changes_stack u ≡ true → IsStandingIn (Some (first, count)) (named_block u) x
      → t ≡ 1 + (m + 1) * count + offset_after x p → IsSlotOf (domain.Source first count takable) loads (updated u (OfSource (source_in first.0 count loads s))) t
  routine_slot_after first count takable known at changes standing is =
      let to = named_block u in
      let o = offset_after x p in
      let there = routine_there first.0 count loads s p at.0 at.1 live known in
      let z = get_or loads m no_load in
      let y = routine_val (block_no (first.0 + o)) z.held in
      let bare : IsRoutineLoad z = subst IsRoutineLoad (sym after.is) (bare_after u (get_or loads (p.row - 1) no_load) changes there.bare) in
      let same : z ≡ routine_load y = ap₂ (λ (further : ℕ) (inside : Bool). load_with further inside z.held) bare.0 bare.1 in
      let number : IsLoadNumber loads (routine_load y) m = record { known = after.there; is = same; only = λ j lt e. distinct.each j m lt after.there (e ∙ sym same) } in
      let row = in_row_of first count o m t (standing_short first count to x p at.0 standing) is in
      let its : IsSourceSlotOf first.0 count loads (source_val.In y) t = routine_slot first.0 count loads y m (Some t) number (standing_small first count to x p there.small standing) row in
      let becomes : updated u (OfSource (source_in first.0 count loads s)) ≡ OfSource (source_val.In y) =
      ap (λ (v : SourceVal). updated u (OfSource v)) there.is ∙ routine_updated u (block_no (first.0 + p.offset)) (get_or loads (p.row - 1) no_load) changes
      ∙ ap₂ (λ (b : BlockNo) (w : Load). OfSource (source_val.In (routine_val b w.held))) (standing_block first count to x p standing) (sym after.is) in
      subst (λ (v : PartValue). IsSlotOf (domain.Source first count takable) loads v t) (sym becomes) (of_source first count takable loads (source_val.In y) t its)

  pub updated_slot : (d : Domain) → IsSlot d loads s → IsSlotPlace d s p → changes_load d u ≡ true → IsStandingAfter d u x → t ≡ 1 + (m + 1) * slot_width d + offset_after x p → IsSlotOf d loads (updated u (value_in d loads s)) t
  updated_slot (domain.Task first count activation internal takable) known at changes standing is =
      let wide : width_of (Some (first, count)) ≡ count = as_many (Some (first, count)) first count refl (omega (arith, at.0)) in
      task_slot_after first count takable activation internal known at changes standing (is ∙ ap (λ (w : ℕ). 1 + (m + 1) * w + offset_after x p) wide)
  updated_slot domain.Event known at changes standing is = absurd at
  updated_slot domain.Alarm known at changes standing is = absurd at
  updated_slot (domain.Source first count takable) known at changes standing is =
      let wide : width_of (Some (first, count)) ≡ count = as_many (Some (first, count)) first count refl (omega (arith, at.0)) in
      routine_slot_after first count takable known at changes standing (is ∙ ap (λ (w : ℕ). 1 + (m + 1) * w + offset_after x p) wide)

-- the number of what becomes of a value, where it was found by block and load
pub found_updated : (d : Domain) (loads : List Load) (slots : UsedSlots) (numbers : List ℕ) (u : Update) (x : Standing) (n k : ℕ) → AreSeen d loads slots → AreDistinct loads → changes_load d u ≡ true → IsStandingAfter d u x
    → AreNumbersAfter loads u numbers → IsFoundWith d slots numbers x n k → (v : PartValue) → IsNumberOf (slot_values d loads slots.used) v n → IsNumberOf (slot_values d loads slots.used) (updated u v) k
found_updated d loads slots numbers u x n k seen distinct changes standing known found =
    let p = found.place in
    let m = get_or numbers (p.row - 1) none in
    let t = 1 + (m + 1) * slots.width + offset_after x p in
    let its : IsSlot d loads found.slot = subst (IsSlot d loads) (found.its.is 0) (seen.known.each n 0 found.its.known) in
    let slot = updated_slot loads distinct u found.slot t m p x found.live (known.each (p.row - 1) found.load) d its found.at changes standing (ap (λ (w : ℕ). 1 + (m + 1) * w + offset_after x p) seen.wide) in
    moved_number d loads slots.used (updated u) found.slot t n (Some k) found.its slot.is found.there

-- ---- what a value that became another tells of their loads

abbrev load_of_part : PartValue → Load
load_of_part (OfTask (Live x)) = load_of x
load_of_part other = no_load

abbrev held_of_part : PartValue → List ResNo
held_of_part (OfSource (source_val.In x)) = x.held
held_of_part other = no_load.held

module _ (loads : List Load) (u : Update) (s t k m : ℕ) (p q : SlotPlace) (from : p.row ≡ k + 1) (to : q.row ≡ m + 1) where
  task_load_after : (first : BlockNo) (count : ℕ) → IsTaskSlot first.0 count loads s → IsTaskSlot first.0 count loads t → IsPlaceIn (Some (first, count)) s p → IsPlaceIn (Some (first, count)) t q → changes_task_load u ≡ true
      → OfTask (val_in first.0 count loads t) ≡ updated u (OfTask (val_in first.0 count loads s)) → IsNumberAfter loads u k m
  task_load_after first count known there at also changes becomes =
      let here = live_there first.0 count loads s p at.0 at.1 (λ e. omega (arith, e, from)) known in
      let gone = live_there first.0 count loads t q also.0 also.1 (λ e. omega (arith, e, to)) there in
      let same : p.row - 1 ≡ k = omega (arith, from) in
      let other : q.row - 1 ≡ m = omega (arith, to) in
      let is : OfTask (Live (carrying (block_no (first.0 + q.offset)) (get_or loads (q.row - 1) no_load)))
      ≡ OfTask (Live (carrying (block_or (named_block u) (block_no (first.0 + p.offset))) (load_after u (get_or loads (p.row - 1) no_load)))) =
      ap OfTask (sym gone.is) ∙ becomes ∙ ap (λ (v : Val). updated u (OfTask v)) here.is ∙ task_updated u (block_no (first.0 + p.offset)) (get_or loads (p.row - 1) no_load) changes in
      record {
        known = omega (arith, here.row, from);
        there = omega (arith, gone.row, to);
        is = ap (λ (j : ℕ). get_or loads j no_load) (sym other) ∙ ap load_of_part is ∙ ap (λ (j : ℕ). load_after u (get_or loads j no_load)) same;
      }

  routine_load_after : (first : BlockNo) (count : ℕ) → IsSourceSlot first.0 count loads s → IsSourceSlot first.0 count loads t → IsPlaceIn (Some (first, count)) s p → IsPlaceIn (Some (first, count)) t q → changes_stack u ≡ true
      → OfSource (source_in first.0 count loads t) ≡ updated u (OfSource (source_in first.0 count loads s)) → IsNumberAfter loads u k m
  routine_load_after first count known there at also changes becomes =
      let here = routine_there first.0 count loads s p at.0 at.1 (λ e. omega (arith, e, from)) known in
      let gone = routine_there first.0 count loads t q also.0 also.1 (λ e. omega (arith, e, to)) there in
      let y = get_or loads (p.row - 1) no_load in
      let z = get_or loads (q.row - 1) no_load in
      let same : p.row - 1 ≡ k = omega (arith, from) in
      let other : q.row - 1 ≡ m = omega (arith, to) in
      let is : OfSource (source_val.In (routine_val (block_no (first.0 + q.offset)) z.held)) ≡ OfSource (source_val.In (routine_val (block_or (named_block u) (block_no (first.0 + p.offset))) (load_after u y).held)) =
      ap OfSource (sym gone.is) ∙ becomes ∙ ap (λ (v : SourceVal). updated u (OfSource v)) here.is ∙ routine_updated u (block_no (first.0 + p.offset)) y changes in
      let bare = bare_after u y changes here.bare in
      let one : z ≡ load_after u y =
      ap₂ (λ (further : ℕ) (inside : Bool). load_with further inside z.held) (gone.bare.0 ∙ sym bare.0) (gone.bare.1 ∙ sym bare.1) ∙ ap (load_with (load_after u y).further (load_after u y).inside) (ap held_of_part is) in
      record {
        known = omega (arith, here.row, from);
        there = omega (arith, gone.row, to);
        is = ap (λ (j : ℕ). get_or loads j no_load) (sym other) ∙ one ∙ ap (λ (j : ℕ). load_after u (get_or loads j no_load)) same;
      }

pub load_noted : (d : Domain) (loads : List Load) (u : Update) (s t k m : ℕ) → IsSlot d loads s → IsSlot d loads t → IsLoadIn d s k → IsLoadIn d t m → changes_load d u ≡ true → value_in d loads t ≡ updated u (value_in d loads s)
    → IsNumberAfter loads u k m
load_noted (domain.Task first count activation internal takable) loads u s t k m known there from to changes becomes =
    task_load_after loads u s t k m from.place to.place from.row to.row first count known there from.at to.at changes becomes
load_noted domain.Event loads u s t k m known there from to changes becomes = absurd (cc)
load_noted domain.Alarm loads u s t k m known there from to changes becomes = absurd (cc)
load_noted (domain.Source first count takable) loads u s t k m known there from to changes becomes =
    routine_load_after loads u s t k m from.place to.place from.row to.row first count known there from.at to.at changes becomes
