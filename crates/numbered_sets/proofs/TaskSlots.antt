-- Slots of a task's values: each is the only one of its value.
use Rattle.std.proofs.Common.{◌≡◌, ◌≢◌, ℕ, zero, suc, ◌+◌, ◌-◌, ◌*◌, ◌/◌, ◌%◌, ◌^◌, ◌<◌, ◌≤◌, List, ◌++◌, length, get_or, refl, sym, ap, ap₂, subst, ◌∙◌, arith}
use Rattle.std.specs.Prelude.{Option, Some, None, IfSome}
use Rattle.std.proofs.Math.Nat.{div-lt_iff_lt-mul, div-add-mod, mul_comm}
use Rattle.std.proofs.lemmas.{Nat.{div-mul-add, mod-mul-add}, List.{get_or_append_left}}
use Rattle.osek_values.specs.{Numbers.{block_no}, declared.numbers.BlockNo.{BlockNo}}
use Rattle.abstract_state.specs.declared.value.{Val.{Val, TheVariants.{Suspended, Live, Waiting}}, LiveVal.{LiveVal}}
use Rattle.flow_model.specs.Values.{at_block}
use Rattle.numbered_sets.specs.{declared.loads.Load.{Load}, Slots.{carrying, in_row, load_of, no_load, val_in, IsTaskSlot, IsSlotInRow, IsTaskSlotOf, IsLoadNumber, AreDistinct}}

-- ---- what stands in a row

abbrev pub block_in : Val → BlockNo
block_in Suspended = block_no 0
block_in (Live x) = x.block
block_in (Waiting b) = b

abbrev pub load_in : Val → Load
load_in Suspended = no_load
load_in (Live x) = load_of x
load_in (Waiting b) = no_load

never_suspended : (loads : List Load) (r : ℕ) (b : BlockNo) → in_row loads r b ≡ Suspended → ⊥
never_suspended loads zero b e = absurd (cc)
never_suspended loads (suc k) b e = absurd (cc)

block_of_row : (loads : List Load) (r : ℕ) (b : BlockNo) → block_in (in_row loads r b) ≡ b
block_of_row loads zero b = refl
block_of_row loads (suc k) b = refl

first_row : (loads : List Load) (r : ℕ) (b c : BlockNo) → in_row loads r b ≡ Waiting c → r ≡ 0
first_row loads zero b c e = refl
first_row loads (suc k) b c e = absurd (cc)

-- the row of a load
load_of_row : (loads : List Load) (r : ℕ) (b : BlockNo) (x : LiveVal) → in_row loads r b ≡ Live x → (k : ℕ) × (r ≡ suc k) × (get_or loads k no_load ≡ load_of x)
load_of_row loads zero b x e = absurd (cc)
load_of_row loads (suc k) b x e = (k, refl, ap load_in e)

pub row_stays : (loads more : List Load) (r : ℕ) (b : BlockNo) → r < 1 + length loads → in_row (loads ++ more) r b ≡ in_row loads r b
row_stays loads more zero b lt = refl
row_stays loads more (suc k) b lt = ap (λ (x : Load). Live (carrying b x)) (get_or_append_left loads more no_load k (omega (arith, lt)))

-- ---- the row and the block of a slot

pub some_block : (n rows count : ℕ) → n < rows * count → 0 < count
some_block n rows zero lt = absurd (omega (arith, lt))
some_block n rows (suc c) lt = omega arith

pub row_known : (n rows count : ℕ) → n < rows * count → n / count < rows
row_known n rows count lt = (div-lt_iff_lt-mul {k = count} {x = n} {y = rows} (some_block n rows count lt)).1 lt

module _ (first count row block n : ℕ) (at : IsSlotInRow first count row block (suc n)) where
  short : block - first < count
  short = omega (arith, at.low, at.high)

  place : n ≡ row * count + (block - first)
  place = omega (arith, at.low, at.is)

  its_row : n / count ≡ row
  its_row = ap (λ (m : ℕ). m / count) place ∙ div-mul-add row count (block - first) short

  its_block : first + n % count ≡ block
  its_block = (let rest : n % count ≡ block - first = ap (λ (m : ℕ). m % count) place ∙ mod-mul-add row count (block - first) short in omega (arith, rest, at.low))

known_slot : (first count row block s : ℕ) (loads : List Load) → IsSlotInRow first count row block s → row < 1 + length loads → block < 2 ^ 16 → IsTaskSlot first count loads s
known_slot first count row block zero loads at few small = tt
known_slot first count row block (suc n) loads at few small =
    let some : 0 < count = (let short = short first count row block n at in omega (arith, short)) in
    let below : n / count < 1 + length loads = (let same = its_row first count row block n at in omega (arith, same, few)) in
    ((div-lt_iff_lt-mul {k = count} {x = n} {y = 1 + length loads} some).0 below, (let same = its_block first count row block n at in omega (arith, same, small)))

in_slot : (first count row block s : ℕ) (loads : List Load) → IsSlotInRow first count row block s → val_in first count loads s ≡ in_row loads row (block_no block)
in_slot first count row block zero loads at = absurd (omega (arith, at.low, at.is))
in_slot first count row block (suc n) loads at = ap₂ (λ (r b : ℕ). in_row loads r (block_no b)) (its_row first count row block n at) (its_block first count row block n at)

-- the only row in which the value stands
abbrev pub IsOnlyRow : List Load → Val → ℕ → Type 0
IsOnlyRow loads v row = (r : ℕ) (b : BlockNo) → r < 1 + length loads → in_row loads r b ≡ v → r ≡ row

only_slot : (first count row : ℕ) (block : BlockNo) (s t : ℕ) (loads : List Load) (v : Val) → IsSlotInRow first count row block.0 s → in_row loads row block ≡ v → IsOnlyRow loads v row
    → IsTaskSlot first count loads t → val_in first count loads t ≡ v → t ≡ s
only_slot first count row block s zero loads v at is only known e = absurd (never_suspended loads row block (is ∙ sym e))
only_slot first count row block s (suc m) loads v at is only known e =
    let r = m / count in
    let b = block_no (first + m % count) in
    let same_row : r ≡ row = only r b (row_known m (1 + length loads) count known.0) e in
    let same_block : b ≡ block = sym (block_of_row loads r b) ∙ ap block_in (e ∙ sym is) ∙ block_of_row loads row block in
    let low : first + m % count ≡ block.0 = ap (λ (x : BlockNo). x.0) same_block in
    let parts : count * (m / count) + m % count ≡ m = div-add-mod m count in
    let product : count * (m / count) ≡ row * count = ap (λ (k : ℕ). count * k) same_row ∙ mul_comm count row in
    omega (arith, low, parts, product, at.is, at.low)

pub slot_of_row : (first count row s : ℕ) (block : BlockNo) (loads : List Load) (v : Val) → IsSlotInRow first count row block.0 s → row < 1 + length loads → block.0 < 2 ^ 16 → in_row loads row block ≡ v → IsOnlyRow loads v row
    → IsTaskSlotOf first count loads v s
slot_of_row first count row s block loads v at few small is only = record {
  known = known_slot first count row block.0 s loads at few small;
  is = in_slot first count row block.0 s loads at ∙ is;
  only = λ t known e. only_slot first count row block s t loads v at is only known e;
}

pub waiting_row : (loads : List Load) (block : BlockNo) → IsOnlyRow loads (Waiting block) 0
waiting_row loads block r b lt e = first_row loads r b block e

pub live_row : (loads : List Load) (x : LiveVal) (k : ℕ) → IsLoadNumber loads (load_of x) k → IsOnlyRow loads (Live x) (suc k)
live_row loads x k number r b lt e =
    let row = load_of_row loads r b x e in
    let same = number.only row.0 (omega (arith, lt, row.1)) row.2 in
    omega (arith, same, row.1)

pub in_live_row : (loads : List Load) (x : LiveVal) (k : ℕ) → IsLoadNumber loads (load_of x) k → in_row loads (suc k) x.block ≡ Live x
in_live_row loads x k number = ap (λ (y : Load). Live (carrying x.block y)) number.is

-- a load that no number has stands in no slot
pub no_load_slot : (first count : ℕ) (loads : List Load) (x : LiveVal) → ((k : ℕ) → k < length loads → get_or loads k no_load ≢ load_of x) → (s : ℕ) → IsTaskSlot first count loads s
    → val_in first count loads s ≢ Live x
no_load_slot first count loads x none zero known e = absurd (cc)
no_load_slot first count loads x none (suc n) known e =
    let row = load_of_row loads (n / count) (block_no (first + n % count)) x e in
    let below = row_known n (1 + length loads) count known.0 in
    none row.0 (omega (arith, below, row.1)) row.2

-- what a search for the slot found
pub waiting_slot : (first count : ℕ) (loads : List Load) (block : BlockNo) (found : Option ℕ) → block.0 < 2 ^ 16 → IfSome found (IsSlotInRow first count 0 block.0) → IfSome found (IsTaskSlotOf first count loads (Waiting block))
waiting_slot first count loads block None small at = tt
waiting_slot first count loads block (Some s) small at = slot_of_row first count 0 s block loads (Waiting block) at (omega arith) small refl (waiting_row loads block)

pub live_slot : (first count : ℕ) (loads : List Load) (x : LiveVal) (k : ℕ) (found : Option ℕ) → IsLoadNumber loads (load_of x) k → x.block.0 < 2 ^ 16 → IfSome found (IsSlotInRow first count (k + 1) x.block.0) → IfSome found (IsTaskSlotOf first count loads (Live x))
live_slot first count loads x k None number small at = tt
live_slot first count loads x k (Some s) number small at =
    let row : k + 1 ≡ suc k = omega arith in
    slot_of_row first count (suc k) s x.block loads (Live x) (subst (λ r. IsSlotInRow first count r x.block.0 s) row at) (omega (arith, number.known)) small (in_live_row loads x k number) (live_row loads x k number)

-- ---- slots at another block

pub in_other_block : (first count row n : ℕ) (block : BlockNo) (loads : List Load) (found : Option ℕ) → row ≡ n / count → AreDistinct loads → row < 1 + length loads → (row ≡ 0 → ⊥) → block.0 < 2 ^ 16
    → IfSome found (IsSlotInRow first count row block.0) → IfSome found (IsTaskSlotOf first count loads (at_block block (in_row loads (n / count) (block_no (first + n % count)))))
in_other_block first count zero n block loads found same distinct few live small at = absurd (live refl)
in_other_block first count (suc k) n block loads None same distinct few live small at = tt
in_other_block first count (suc k) n block loads (Some t) same distinct few live small at =
    let x = carrying block (get_or loads k no_load) in
    let known : k < length loads = omega (arith, few) in
    let number : IsLoadNumber loads (load_of x) k = record { known = known; is = refl; only = λ j lt e. distinct.each j k lt known e } in
    let its : IsTaskSlotOf first count loads (Live x) t = slot_of_row first count (suc k) t block loads (Live x) at few small (in_live_row loads x k number) (live_row loads x k number) in
    subst (λ (r : ℕ). IsTaskSlotOf first count loads (at_block block (in_row loads r (block_no (first + n % count)))) t) same its

-- ---- slots of tasks that wait

pub waits_in_slot : (first count s : ℕ) (loads : List Load) (block : BlockNo) → (s ≡ 0 → ⊥) → s ≤ count → block.0 ≡ first + s - 1 → val_in first count loads s ≡ Waiting block
waits_in_slot first count zero loads block some few at = absurd (some refl)
waits_in_slot first count (suc n) loads block some few at =
    let short : n < count = omega (arith, few) in
    let place : n ≡ 0 * count + n = omega arith in
    let row : n / count ≡ 0 = ap (λ (m : ℕ). m / count) place ∙ div-mul-add 0 count n short in
    let rest : n % count ≡ n = ap (λ (m : ℕ). m % count) place ∙ mod-mul-add 0 count n short in
    let here : first + n % count ≡ block.0 = omega (arith, at, rest) in
    ap₂ (λ (r b : ℕ). in_row loads r (block_no b)) row here
