-- Writing the values with some ranks, in their order: what is left to write.
use Rattle.std.proofs.Common.{◌≡◌, ℕ, zero, suc, ◌+◌, ◌<◌, ◌≤◌, Bool, true, false, List, [], ◌∷◌, ◌++◌, length, drop, get_or, sym, ap, ap₂, ◌∙◌, inl, inr, arith, drop-cons}
use Rattle.std.specs.{Prelude.{if◌then◌else◌}, List.{flat_map}}
use Rattle.std.proofs.{lemmas.{Bool.{cases_eq}, List.{get_or_default, get_or-map, length-map, Concat.{flat_map-cons}}}}
use Rattle.abstract_state.specs.declared.value.PartValue.{PartValue, TheVariants.{OfAlarm}}
use Rattle.numbered_sets.specs.Views.{values_with}
use Rattle.table_codec.specs.{declared.ascending.NumberedValue.{NumberedValue}, Ranks.{only_values}, Spelling.{value_bytes}}
use Rattle.table_codec.proofs.AscendingValues.{values_same}

-- the values from a rank on that pass
abbrev pub values_left : List PartValue → (ℕ → Bool) → ℕ → List PartValue
values_left vs has k = values_with (drop k vs) (λ n. has (k + n))

pub all_left : (vs : List PartValue) (has : ℕ → Bool) → values_left vs has 0 ≡ values_with vs has
all_left vs has = values_same vs (λ n. has (0 + n)) has (λ n. ap has (omega arith))

module _ (vs : List PartValue) (has : ℕ → Bool) where
  pub next_left : (k : ℕ) (v : PartValue) → k < length vs → get_or vs k v ≡ v → values_left vs has k ≡ (if has k then v ∷ [] else []) ++ values_left vs has (k + 1)
  next_left k v lt at =
      let first : k + 0 ≡ k = omega arith in
      let one : suc k ≡ k + 1 = omega arith in
      ap (λ (ws : List PartValue). values_with ws (λ n. has (k + n))) (drop-cons vs k v lt)
      ∙ ap₂ (λ (b : Bool) (w : PartValue). (if b then w ∷ [] else []) ++ values_with (drop (suc k) vs) (λ n. has (k + suc n))) (ap has first) at
      ∙ ap (λ (ws : List PartValue). (if has k then v ∷ [] else []) ++ ws)
      (values_same (drop (suc k) vs) (λ n. has (k + suc n)) (λ n. has (suc k + n)) (λ n. ap has (omega arith)) ∙ ap (λ (m : ℕ). values_left vs has m) one)

  -- past ranks that aren't there
  pub left_on : (k m : ℕ) → k ≤ m → m ≤ length vs → ((i : ℕ) → k ≤ i → i < m → has i ≡ false) → values_left vs has m ≡ values_left vs has k
  left_on k zero le whole none = (let same : 0 ≡ k = omega (arith, le) in ap (values_left vs has) same)
  left_on k (suc m) le whole none = elim (cases_eq k (suc m)) [
    | inl same ↦ ap (values_left vs has) (sym same)
    | inr differ ↦
        (let v = get_or vs m (OfAlarm false) in
        let less : m < length vs = omega (arith, whole) in
        let more : suc m ≡ m + 1 = omega arith in
        let passed : values_left vs has m ≡ values_left vs has (m + 1)
        = next_left m v less (get_or_default vs m v (OfAlarm false) less) ∙ ap (λ (b : Bool). (if b then v ∷ [] else []) ++ values_left vs has (m + 1)) (none m (omega (arith, le, differ)) (omega arith)) in
        ap (values_left vs has) more ∙ sym passed ∙ left_on k m (omega (arith, le, differ)) (omega (arith, whole)) (λ i above below. none i above (omega (arith, below))))
  ]

-- the value with the next rank
pub one_left : (all : List NumberedValue) (has : ℕ → Bool) (k : ℕ) (d : NumberedValue) → k < length all → has k ≡ true → values_left (only_values all) has k ≡ (get_or all k d).value ∷ values_left (only_values all) has (k + 1)
one_left all has k d lt there =
    let v = (get_or all k d).value in
    let at : get_or (only_values all) k v ≡ v = get_or-map (λ (w : NumberedValue). w.value) all k d v lt in
    next_left (only_values all) has k v (omega (arith, lt, length-map all (λ (w : NumberedValue). w.value))) at
    ∙ ap (λ (b : Bool). (if b then v ∷ [] else []) ++ values_left (only_values all) has (k + 1)) there

-- what is left, its values one after the other
pub one_put : (all : List NumberedValue) (has : ℕ → Bool) (k : ℕ) (d : NumberedValue) → k < length all → has k ≡ true
    → flat_map value_bytes (values_left (only_values all) has k) ≡ value_bytes (get_or all k d).value ++ flat_map value_bytes (values_left (only_values all) has (k + 1))
one_put all has k d lt there = ap (flat_map value_bytes) (one_left all has k d lt there) ∙ flat_map-cons value_bytes (get_or all k d).value (values_left (only_values all) has (k + 1))
