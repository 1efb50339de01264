-- Further words of components: what a write at one of them does, and loops over all of them.
use Rattle.std.proofs.Common.{◌≡◌, ◌≢◌, ℕ, zero, suc, ◌+◌, ◌<◌, ◌≤◌, List, [], ◌∷◌, length, set, refl, sym, ap, ap₂, subst, ◌∙◌, inl, inr, arith}
use Rattle.std.specs.Prelude.{bit_or, count_ones}
use Rattle.std.proofs.lemmas.{Bool.{cases_eq, cases_lt}, List.{length-set, Sums.{sum_by-cons, sum_by-set}}, Nat.{ones_le_self}}
use Rattle.std.specs.Int.Bits.{or_zero_r}
use Rattle.bit_words.specs.{Words.{bits_of_words}, Further.{further_at, further_bits, further_count, IsChangedAt}}
use Rattle.bit_words.proofs.FirstWords.{bits_of_none}

pub further_past : (more : List (List ℕ)) (c : ℕ) → length more ≤ c → further_at more c ≡ []
further_past [] c le = refl
further_past (w ∷ ws) zero le = absurd (omega (arith, le))
further_past (w ∷ ws) (suc c) le = further_past ws c (omega (arith, le))

pub none_counted : count_ones (bits_of_words []) ≡ 0
none_counted = (let few = ones_le_self (bits_of_words []) in let none = bits_of_none [] refl in omega (arith, few, none))

pub no_further : (more : List (List ℕ)) (c : ℕ) → length more ≤ c → further_bits more c ≡ 0
no_further more c le = ap bits_of_words (further_past more c le) ∙ bits_of_none [] refl

pub further_set : (more : List (List ℕ)) (c : ℕ) (v : List ℕ) → c < length more → further_at (set more c v) c ≡ v
further_set [] c v lt = absurd (omega (arith, lt))
further_set (w ∷ ws) zero v lt = refl
further_set (w ∷ ws) (suc c) v lt = further_set ws c v (omega (arith, lt))

further_other : (more : List (List ℕ)) (c k : ℕ) (v : List ℕ) → k ≢ c → further_at (set more c v) k ≡ further_at more k
further_other [] c k v differ = refl
further_other (w ∷ ws) zero zero v differ = absurd (differ refl)
further_other (w ∷ ws) zero (suc k) v differ = refl
further_other (w ∷ ws) (suc c) zero v differ = refl
further_other (w ∷ ws) (suc c) (suc k) v differ = further_other ws c k v (λ e. differ (ap suc e))

-- a component's words become others
module _ (more after : List (List ℕ)) (c : ℕ) (v : List ℕ) (put : after ≡ set more c v) where
  pub changed_to : IsChangedAt more c after
  changed_to = record { as_many = ap length put ∙ length-set more c v; others = λ k differ. ap (λ (m : List (List ℕ)). further_at m k) put ∙ further_other more c k v differ }

  pub bits_after : c < length more → further_bits after c ≡ bits_of_words v
  bits_after lt = ap (λ (m : List (List ℕ)). further_bits m c) put ∙ ap bits_of_words (further_set more c v lt)

  pub further_counted : (n : ℕ) → c < length more → count_ones (bits_of_words v) ≡ count_ones (further_bits more c) + n → further_count after ≡ further_count more + n
  further_counted n lt grown =
      let whole = sum_by-set (λ (ws : List ℕ). count_ones (bits_of_words ws)) more c v [] lt in
      let is : further_count after ≡ further_count (set more c v) = ap further_count put in
      omega (arith, whole, is, grown)

-- bits that are the same are as many
pub further_as_many : (xs ys : List (List ℕ)) → ((k : ℕ) → further_bits xs k ≡ further_bits ys k) → further_count xs ≡ further_count ys
further_as_many [] [] same = refl
further_as_many [] (y ∷ ys) same =
    let rest = further_as_many [] ys (λ k. same (suc k)) in
    let first : count_ones (bits_of_words []) ≡ count_ones (bits_of_words y) = ap count_ones (same 0) in
    let none = none_counted in
    omega (arith, rest, first, none, sum_by-cons (λ (ws : List ℕ). count_ones (bits_of_words ws)) y ys)
further_as_many (x ∷ xs) [] same =
    let rest = further_as_many xs [] (λ k. same (suc k)) in
    let first : count_ones (bits_of_words x) ≡ count_ones (bits_of_words []) = ap count_ones (same 0) in
    let none = none_counted in
    omega (arith, rest, first, none, sum_by-cons (λ (ws : List ℕ). count_ones (bits_of_words ws)) x xs)
further_as_many (x ∷ xs) (y ∷ ys) same =
    let rest = further_as_many xs ys (λ k. same (suc k)) in
    let first : count_ones (bits_of_words x) ≡ count_ones (bits_of_words y) = ap count_ones (same 0) in
    omega (arith, rest, first, sum_by-cons (λ (ws : List ℕ). count_ones (bits_of_words ws)) x xs, sum_by-cons (λ (ws : List ℕ). count_ones (bits_of_words ws)) y ys)

-- ---- loops over components

-- the bits of components from one up to another are all set
abbrev pub AreSetFrom : List (List ℕ) → List (List ℕ) → ℕ → ℕ → Type 0
AreSetFrom more other from c = (k : ℕ) → from ≤ k → k < c → further_bits more k ≡ bit_or (further_bits more k) (further_bits other k)

pub one_more_set : (more other : List (List ℕ)) (from c : ℕ) (mine its : List ℕ) → mine ≡ further_at more c → its ≡ further_at other c
    → bits_of_words mine ≡ bit_or (bits_of_words mine) (bits_of_words its) → AreSetFrom more other from c → AreSetFrom more other from (c + 1)
one_more_set more other from c mine its is are here so_far k le lt = elim (cases_lt k c) [
  | inl below ↦ so_far k le below
  | inr reached ↦
      (let same : k ≡ c = omega (arith, lt, reached) in
      let at : further_bits more c ≡ bit_or (further_bits more c) (further_bits other c) =
      ap bits_of_words (sym is) ∙ here ∙ ap₂ (λ (ws us : List ℕ). bit_or (bits_of_words ws) (bits_of_words us)) is are in
      subst (λ (j : ℕ). further_bits more j ≡ bit_or (further_bits more j) (further_bits other j)) (sym same) at)
]

pub all_set : (more other : List (List ℕ)) (from c : ℕ) → length other ≤ c → AreSetFrom more other from c → (k : ℕ) → from ≤ k → further_bits more k ≡ bit_or (further_bits more k) (further_bits other k)
all_set more other from c whole set k le = elim (cases_lt k c) [
  | inl lt ↦ set k le lt
  | inr past ↦ sym (or_zero_r (further_bits more k)) ∙ ap (bit_or (further_bits more k)) (sym (no_further other k (omega (arith, whole, past))))
]

-- the bits of components up to one are joined
pub record AreBitsJoinedUpTo (before other : List (List ℕ)) (c : ℕ) (now : List (List ℕ)) : Type 0 where
  pub as_many : length now ≡ length before
  pub joined : (k : ℕ) → k < c → further_bits now k ≡ bit_or (further_bits before k) (further_bits other k)
  pub kept : (k : ℕ) → c ≤ k → further_at now k ≡ further_at before k

pub more_bits_joined : (before other now after : List (List ℕ)) (c : ℕ) (its : List ℕ) → its ≡ further_at other c → AreBitsJoinedUpTo before other c now → IsChangedAt now c after
    → further_bits after c ≡ bit_or (further_bits now c) (bits_of_words its) → AreBitsJoinedUpTo before other (c + 1) after
more_bits_joined before other now after c its is so_far change write = record {
  as_many = change.as_many ∙ so_far.as_many;
  joined = λ k lt. elim (cases_eq k c) [
    | inl here ↦
        (let at : further_bits after c ≡ bit_or (further_bits before c) (further_bits other c) =
        write ∙ ap₂ (λ (ws us : List ℕ). bit_or (bits_of_words ws) (bits_of_words us)) (so_far.kept c (omega arith)) is in
        subst (λ (j : ℕ). further_bits after j ≡ bit_or (further_bits before j) (further_bits other j)) (sym here) at)
    | inr differ ↦ ap bits_of_words (change.others k differ) ∙ so_far.joined k (omega (arith, lt, differ))
  ];
  kept = λ k le. change.others k (λ e. omega (arith, e, le)) ∙ so_far.kept k (omega (arith, le));
}

pub all_bits_joined : (before other now : List (List ℕ)) (c : ℕ) → length other ≤ c → AreBitsJoinedUpTo before other c now → (k : ℕ) → further_bits now k ≡ bit_or (further_bits before k) (further_bits other k)
all_bits_joined before other now c whole h k = elim (cases_lt k c) [
  | inl lt ↦ h.joined k lt
  | inr le ↦
      ap bits_of_words (h.kept k le) ∙ sym (or_zero_r (further_bits before k))
      ∙ ap (bit_or (further_bits before k)) (sym (no_further other k (omega (arith, whole, le))))
]

-- the words of components up to one stand in a copy
pub record AreWordsCopied (more : List (List ℕ)) (c : ℕ) (copy : List (List ℕ)) : Type 0 where
  pub as_many : length copy ≡ c
  pub same : (k : ℕ) → k < c → further_at copy k ≡ further_at more k
