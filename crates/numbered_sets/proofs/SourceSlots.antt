-- Slots of a source's values: those of a task that has nothing but a stack there.
use Rattle.std.proofs.{Common.{◌≡◌, ◌≢◌, ℕ, zero, suc, ◌+◌, ◌-◌, ◌*◌, ◌/◌, ◌%◌, ◌^◌, ◌<◌, ◌≤◌, Bool, false, List, [], ◌++◌, length, get_or, refl, sym, ap, ap₂, subst, ◌∙◌, inl, inr, arith}, lemmas.Option.{IfSome_then}}
use Rattle.std.specs.Prelude.{Option, IfSome}
use Rattle.std.proofs.{Math.Nat.{div-lt_iff_lt-mul}, lemmas.{Bool.{cases_lt}, List.{get_or_append_left}}}
use Rattle.osek_values.specs.{Numbers.{block_no}, declared.numbers.{BlockNo.{BlockNo}, ResNo.{ResNo}}}
use Rattle.abstract_state.specs.declared.value.{Val.{Val, TheVariants.{Live}}, LiveVal.{LiveVal}, SourceVal.{SourceVal}, RoutineVal.{RoutineVal}}
use Rattle.abstract_state.specs.declared.value.SourceVal.TheVariants as source_val
use Rattle.abstract_state.specs.Components.{live_val, routine_val}
use Rattle.flow_model.specs.Values.{at_block, restacked_routine}
use Rattle.numbered_sets.specs.declared.loads.Load.{Load}
use Rattle.numbered_sets.specs.Slots.{in_row, in_source_row, routine_load, no_load, val_in, source_in, IsRoutineLoad, IsTaskSlot, IsSourceSlot, IsSlotInRow, IsTaskSlotOf, IsSourceSlotOf, IsLoadNumber, AreDistinct}
use Rattle.numbered_sets.proofs.TaskSlots.{block_in, load_in, row_known, some_block, live_slot, no_load_slot, in_other_block}

-- what a task would be with the same stack
abbrev pub live_of : RoutineVal → LiveVal
live_of x = live_val x.block 0 false x.held

abbrev routine_in : SourceVal → RoutineVal
routine_in source_val.Out = routine_val (block_no 0) []
routine_in (source_val.In x) = x

never_out : (x : RoutineVal) → source_val.In x ≡ source_val.Out → ⊥
never_out x e = absurd (cc)

-- ---- rows

routine_row : (loads : List Load) (r : ℕ) (b : BlockNo) → 0 < r → IsRoutineLoad (get_or loads (r - 1) no_load) → (x : RoutineVal) × (in_source_row loads r b ≡ source_val.In x) × (in_row loads r b ≡ Live (live_of x))
routine_row loads zero b some load = absurd (omega (arith, some))
routine_row loads (suc k) b some load =
    let y = get_or loads k no_load in
    let same : suc k - 1 ≡ k = omega arith in
    let bare : IsRoutineLoad y = subst (λ (m : ℕ). IsRoutineLoad (get_or loads m no_load)) same load in
    (routine_val b y.held, refl, ap₂ (λ (further : ℕ) (inside : Bool). Live (live_val b further inside y.held)) bare.0 bare.1)

source_row : (loads : List Load) (r : ℕ) (b : BlockNo) (x : RoutineVal) → in_row loads r b ≡ Live (live_of x) → (0 < r) × IsRoutineLoad (get_or loads (r - 1) no_load) × (in_source_row loads r b ≡ source_val.In x)
source_row loads zero b x e = absurd (cc)
source_row loads (suc k) b x e =
    let y = get_or loads k no_load in
    let same : k ≡ suc k - 1 = omega arith in
    let load : y ≡ routine_load x = ap load_in e in
    let block : b ≡ x.block = ap block_in e in
    let bare : IsRoutineLoad y = (ap (λ (z : Load). z.further) load, ap (λ (z : Load). z.inside) load) in (
      omega arith,
      subst (λ (m : ℕ). IsRoutineLoad (get_or loads m no_load)) same bare,
      ap₂ (λ (c : BlockNo) (held : List ResNo). source_val.In (routine_val c held)) block (ap (λ (z : Load). z.held) load),
    )

source_row_stays : (loads more : List Load) (r : ℕ) (b : BlockNo) → r < 1 + length loads → in_source_row (loads ++ more) r b ≡ in_source_row loads r b
source_row_stays loads more zero b lt = refl
source_row_stays loads more (suc k) b lt = ap (λ (x : Load). source_val.In (routine_val b x.held)) (get_or_append_left loads more no_load k (omega (arith, lt)))

behind_first : (n count : ℕ) → count ≤ n → 0 < count → 0 < n / count
behind_first n count le some = elim (cases_lt (n / count) 1) [
  | inl below ↦ (let few : n < 1 * count = (div-lt_iff_lt-mul {k = count} {x = n} {y = 1} some).0 below in absurd (omega (arith, few, le)))
  | inr at ↦ omega (arith, at)
]

first_behind : (n count : ℕ) → 0 < count → 0 < n / count → count ≤ n
first_behind n count some at = elim (cases_lt n count) [
  | inl short ↦ (let below : n / count < 1 = (div-lt_iff_lt-mul {k = count} {x = n} {y = 1} some).1 (omega (arith, short)) in absurd (omega (arith, below, at)))
  | inr le ↦ omega (arith, le)
]

-- ---- slots

module _ (first count : ℕ) (loads : List Load) where
  pub task_slot : (s : ℕ) → IsSourceSlot first count loads s → IsTaskSlot first count loads s
  task_slot zero known = tt
  task_slot (suc n) known = known.2

  row_behind : (n : ℕ) → IsSourceSlot first count loads (suc n) → 0 < n / count
  row_behind n known = behind_first n count known.0 (some_block n (1 + length loads) count known.2.0)

  -- behind the first slot a routine is in
  routine_there : (n : ℕ) → IsSourceSlot first count loads (suc n) → (x : RoutineVal) × (source_in first count loads (suc n) ≡ source_val.In x) × (val_in first count loads (suc n) ≡ Live (live_of x))
  routine_there n known = routine_row loads (n / count) (block_no (first + n % count)) (row_behind n known) known.1

  -- its load, and what it is
  pub load_known : (s : ℕ) → (s ≡ 0 → ⊥) → IsSourceSlot first count loads s → (s - 1) / count - 1 < length loads
  load_known zero some known = absurd (some refl)
  load_known (suc n) some known =
      let less : n ≡ suc n - 1 = omega arith in
      let behind = row_behind n known in
      let below = row_known n (1 + length loads) count known.2.0 in
      subst (λ (m : ℕ). m / count - 1 < length loads) less (omega (arith, behind, below))

  live_there : (s : ℕ) (x : RoutineVal) → IsSourceSlot first count loads s → source_in first count loads s ≡ source_val.In x → val_in first count loads s ≡ Live (live_of x)
  live_there zero x known e = absurd (never_out x (sym e))
  live_there (suc n) x known e =
      let there = routine_there n known in
      there.2 ∙ ap (λ (y : RoutineVal). Live (live_of y)) (ap routine_in (sym there.1 ∙ e))

  source_there : (s : ℕ) (x : RoutineVal) → IsTaskSlot first count loads s → val_in first count loads s ≡ Live (live_of x) → IsSourceSlot first count loads s × (source_in first count loads s ≡ source_val.In x)
  source_there zero x known e = absurd (cc)
  source_there (suc n) x known e =
      let row = source_row loads (n / count) (block_no (first + n % count)) x e in
      ((first_behind n count (some_block n (1 + length loads) count known.0) row.0, row.1, known), row.2)

  of_live : (x : RoutineVal) (s : ℕ) → IsTaskSlotOf first count loads (Live (live_of x)) s → IsSourceSlotOf first count loads (source_val.In x) s
  of_live x s h =
      let there = source_there s x h.known h.is in
      record { known = there.0; is = there.1; only = λ t known e. h.only t (task_slot t known) (live_there t x known e) }

  out_first : (s : ℕ) → IsSourceSlot first count loads s → source_in first count loads s ≡ source_val.Out → s ≡ 0
  out_first zero known e = refl
  out_first (suc n) known e = (let there = routine_there n known in absurd (never_out there.0 (sym there.1 ∙ e)))

  pub out_slot : IsSourceSlotOf first count loads source_val.Out 0
  out_slot = record { known = tt; is = refl; only = λ t known e. out_first t known e }

  -- what a search for the slot found
  pub routine_slot : (x : RoutineVal) (k : ℕ) (found : Option ℕ) → IsLoadNumber loads (routine_load x) k → x.block.0 < 2 ^ 16 → IfSome found (IsSlotInRow first count (k + 1) x.block.0)
      → IfSome found (IsSourceSlotOf first count loads (source_val.In x))
  routine_slot x k found number small at = IfSome_then found (live_slot first count loads (live_of x) k found number small at) (λ s h. of_live x s h)

  -- a stack that no load has stands in no slot, and neither does a block that isn't the routine's
  pub no_stack_slot : (x : RoutineVal) → ((k : ℕ) → k < length loads → get_or loads k no_load ≢ routine_load x) → (s : ℕ) → IsSourceSlot first count loads s → source_in first count loads s ≢ source_val.In x
  no_stack_slot x none s known e = no_load_slot first count loads (live_of x) none s (task_slot s known) (live_there s x known e)

  -- the slot at another block
  pub source_moved : (n : ℕ) (block : BlockNo) (found : Option ℕ) → AreDistinct loads → IsSourceSlot first count loads (suc n) → block.0 < 2 ^ 16 → IfSome found (IsSlotInRow first count (n / count) block.0)
      → IfSome found (IsSourceSlotOf first count loads (restacked_routine (λ h. h) block (source_in first count loads (suc n))))
  source_moved n block found distinct known small at =
      let there = routine_there n known in
      let behind = row_behind n known in
      let moved = in_other_block first count (n / count) n block loads found refl distinct (row_known n (1 + length loads) count known.2.0) (λ e. omega (arith, e, behind)) small at in
      subst (λ (v : SourceVal). IfSome found (IsSourceSlotOf first count loads (restacked_routine (λ h. h) block v))) (sym there.1)
      (IfSome_then found (subst (λ (v : Val). IfSome found (IsTaskSlotOf first count loads (at_block block v))) there.2 moved) (λ t h. of_live (routine_val block there.0.held) t h))

  -- as more loads come in
  module _ (more : List Load) (n : ℕ) (known : IsSourceSlot first count loads (suc n)) where
    its_row_known : n / count < 1 + length loads
    its_row_known = row_known n (1 + length loads) count known.2.0

    pub load_stays : IsRoutineLoad (get_or (loads ++ more) (n / count - 1) no_load)
    load_stays =
        let behind = row_behind n known in
        subst IsRoutineLoad (sym (get_or_append_left loads more no_load (n / count - 1) (omega (arith, behind, its_row_known)))) known.1

    pub source_stays : source_in first count (loads ++ more) (suc n) ≡ source_in first count loads (suc n)
    source_stays = source_row_stays loads more (n / count) (block_no (first + n % count)) its_row_known
