-- What a reader tests holds or doesn't, and bytes are cut, or begin with a number that may stand there or not.
use Rattle.std.proofs.Common.{◌≡◌, ◌⊎◌, ℕ, zero, suc, ◌+◌, ◌*◌, ◌^◌, ◌<◌, ◌≤◌, Bool, true, false, List, [], ◌∷◌, ◌++◌, refl, sym, ap, subst, inl, inr, arith, IsTrue}
use Rattle.std.specs.{Prelude.{◌==◌, if◌then◌else◌, slice_index}, Int.{to_be_bytes, w16, w32}, List.{AllByRecursion, Sorted.{IsStrictlySortedBy}}}
use Rattle.std.specs.declared.cmp.Ordering.{Ordering, TheVariants.{Less, Equal, Greater}}
use Rattle.std.proofs.lemmas.{Bool.{cases_lt, cases_eq}, Nat.{be_bytes_2, be_bytes_4}}
use Rattle.abstract_state.specs.{declared.value.PartValue.{PartValue}, ValueOrder.{part_order, IsAscending}}
use Rattle.table_codec.specs.declared.fault.{Fault.{Fault}, TableRule.TheVariants.{K1, K3}}
use Rattle.table_codec.specs.{Spelling.{field_limit, field_bytes}, Faults.{fault_at, IsFieldFault, field_cut, field_barred}}

abbrev pub Decided : Type 0 → Type 0
Decided P = P ⊎ (P → ⊥)

pub decide_both : {P Q : Type 0} → Decided P → Decided Q → Decided (P × Q)
decide_both (inl p) (inl q) = inl (p, q)
decide_both (inl p) (inr bars) = inr (λ h. bars h.1)
decide_both (inr bars) q = inr (λ h. bars h.0)

pub decide_less : (a b : ℕ) → Decided (a < b)
decide_less a b = elim (cases_lt a b) [
  | inl lt ↦ inl lt
  | inr le ↦ inr (λ lt. omega (arith, lt, le))
]

pub decide_at_most : (a b : ℕ) → Decided (a ≤ b)
decide_at_most a b = elim (cases_lt b a) [
  | inl lt ↦ inr (λ le. omega (arith, lt, le))
  | inr le ↦ inl le
]

pub decide_true : (b : Bool) → Decided (IsTrue b)
decide_true true = inl refl
decide_true false = inr (λ e. cc)

pub decide_bytes : (xs ys : List ℕ) → Decided (xs ≡ ys)
decide_bytes [] [] = inl refl
decide_bytes [] (y ∷ ys) = inr (λ e. cc)
decide_bytes (x ∷ xs) [] = inr (λ e. cc)
decide_bytes (x ∷ xs) (y ∷ ys) = by_parts (cases_eq x y) (decide_bytes xs ys)
  where
    by_parts : (x ≡ y) ⊎ (x ≡ y → ⊥) → Decided (xs ≡ ys) → Decided (x ∷ xs ≡ y ∷ ys)
    by_parts (inl same) (inl rest) = inl (cc)
    by_parts (inl same) (inr bars) = inr (λ e. bars (cc))
    by_parts (inr bars) rest = inr (λ e. bars (cc))

decide_order : (o : Ordering) → Decided (o ≡ Less)
decide_order Less = inl refl
decide_order Equal = inr (λ e. cc)
decide_order Greater = inr (λ e. cc)

decide_below : (v : PartValue) (ws : List PartValue) → Decided (AllByRecursion (λ (w : PartValue). part_order v w ≡ Less) ws)
decide_below v [] = inl tt
decide_below v (w ∷ ws) = decide_both (decide_order (part_order v w)) (decide_below v ws)

pub decide_ascending : (vs : List PartValue) → Decided (IsAscending vs)
unfolding IsStrictlySortedBy
decide_ascending [] = inl tt
decide_ascending (v ∷ vs) = decide_both (decide_below v vs) (decide_ascending vs)

-- a number below another for which it holds, or there is none
pub some_below : (P : ℕ → Type 0) → ((n : ℕ) → Decided (P n)) → (m : ℕ) → ((n : ℕ) × P n) ⊎ ((n : ℕ) → n < m → P n → ⊥)
some_below P decide zero = inr (λ n lt h. omega (arith, lt))
some_below P decide (suc m) = by_last (decide m) (some_below P decide m)
  where
    by_last : Decided (P m) → ((n : ℕ) × P n) ⊎ ((n : ℕ) → n < m → P n → ⊥) → ((n : ℕ) × P n) ⊎ ((n : ℕ) → n < suc m → P n → ⊥)
    by_last (inl h) below = inl (m, h)
    by_last (inr bars) (inl x) = inl x
    by_last (inr bars) (inr none) = inr (λ n lt h. elim (cases_lt n m) [
      | inl less ↦ none n less h
      | inr past ↦ (let same : n ≡ m = omega (arith, lt, past) in bars (subst P same h))
    ])

-- ---- numbers of bytes

abbrev pub AreBytes : List ℕ → Type 0
AreBytes bytes = (i : ℕ) → slice_index bytes i < 256

pub behind : (prefix rest : List ℕ) → AreBytes (prefix ++ rest) → AreBytes rest
behind [] rest all = all
behind (n ∷ prefix) rest all = behind prefix rest (λ i. all (suc i))

pub bytes_behind : (bytes prefix rest : List ℕ) → bytes ≡ prefix ++ rest → AreBytes bytes → AreBytes rest
bytes_behind bytes prefix rest e all = behind prefix rest (subst AreBytes e all)

pub word : (a b : ℕ) → a < 256 → b < 256 → (n : ℕ) × (n < 2 ^ 16) × (to_be_bytes w16 n ≡ a ∷ b ∷ [])
word a b la lb = (a * 256 + b, omega (arith, la, lb), be_bytes_2 (a ∷ b ∷ []) (a * 256 + b) refl each (omega arith))
  where
    each : AreBytes (a ∷ b ∷ [])
    each zero = la
    each (suc zero) = lb
    each (suc (suc i)) = omega arith

pub long_word : (a b c d : ℕ) → a < 256 → b < 256 → c < 256 → d < 256 → (n : ℕ) × (n < 2 ^ 32) × (to_be_bytes w32 n ≡ a ∷ b ∷ c ∷ d ∷ [])
long_word a b c d la lb lc ld =
    (a * 16777216 + b * 65536 + c * 256 + d, omega (arith, la, lb, lc, ld), be_bytes_4 (a ∷ b ∷ c ∷ d ∷ []) (a * 16777216 + b * 65536 + c * 256 + d) refl each (omega arith))
  where
    each : AreBytes (a ∷ b ∷ c ∷ d ∷ [])
    each zero = la
    each (suc zero) = lb
    each (suc (suc zero)) = lc
    each (suc (suc (suc zero))) = ld
    each (suc (suc (suc (suc i)))) = omega arith

-- the field at a place has a number that may stand there, and these bytes follow
pub record IsField (place : ℕ) (May : ℕ → Type 0) (bytes : List ℕ) : Type 0 where
  pub number : ℕ
  pub rest : List ℕ
  pub may : May number
  pub are : bytes ≡ field_bytes place number ++ rest
  pub all : AreBytes rest

abbrev pub FieldFound : (place : ℕ) → (ℕ → Type 0) → List ℕ → Type 0
FieldFound place May bytes = IsField place May bytes ⊎ ((f : Fault) × IsFieldFault place May bytes f)

module _ (May : ℕ → Type 0) (decide : (n : ℕ) → Decided (May n)) where
  -- the field of a block
  pub word_found : (bytes : List ℕ) → AreBytes bytes → FieldFound 1 May bytes
  word_found [] all = inr (fault_at K1 [], field_cut (omega arith) refl)
  word_found (a ∷ []) all = inr (fault_at K1 (a ∷ []), field_cut (omega arith) refl)
  word_found (a ∷ b ∷ rest) all = by_number (word a b (all 0) (all 1))
    where
      by_number : (n : ℕ) × (n < 2 ^ 16) × (to_be_bytes w16 n ≡ a ∷ b ∷ []) → FieldFound 1 May (a ∷ b ∷ rest)
      by_number x =
          let are : a ∷ b ∷ rest ≡ to_be_bytes w16 x.0 ++ rest = ap (λ (l : List ℕ). l ++ rest) (sym x.2) in
          elim (decide x.0) [
            | inl may ↦ inl (record { number = x.0; rest = rest; may = may; are = are; all = λ i. all (suc (suc i)) })
            | inr bars ↦ inr (fault_at K3 (a ∷ b ∷ rest), field_barred x.0 rest x.1 are bars refl)
          ]

  -- any other field
  pub byte_found : (place : ℕ) → (place == 1) ≡ false → (bytes : List ℕ) → AreBytes bytes → FieldFound place May bytes
  byte_found place narrow [] all = inr (fault_at K1 [], field_cut (subst (λ (b : Bool). 0 < (if b then 2 else 1)) (sym narrow) (omega arith)) refl)
  byte_found place narrow (n ∷ rest) all =
      let few : n < field_limit place = subst (λ (b : Bool). n < (if b then 2 ^ 16 else 2 ^ 8)) (sym narrow) (all 0) in
      let are : n ∷ rest ≡ field_bytes place n ++ rest = ap (λ (b : Bool). (if b then to_be_bytes w16 n else n ∷ []) ++ rest) (sym narrow) in
      elim (decide n) [
        | inl may ↦ inl (record { number = n; rest = rest; may = may; are = are; all = λ i. all (suc i) })
        | inr bars ↦ inr (fault_at K3 (n ∷ rest), field_barred n rest few are bars refl)
      ]
