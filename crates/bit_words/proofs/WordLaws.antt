-- Words of bits: what a bit that is set, words that are added and words that are joined do to the numbers.
use Rattle.std.proofs.Common.{◌≡◌, ◌≢◌, ℕ, zero, suc, ◌+◌, ◌-◌, ◌*◌, ◌/◌, ◌%◌, ◌^◌, ◌<◌, ◌≤◌, Bool, true, false, ◌||◌, List, [], ◌∷◌, ◌++◌, length, get_or, set, refl, sym, ap, ap₂, subst, ◌∙◌, inl, inr, arith, replicate, w64, lit<, get_or-set_same, get_or-set_other}
use Rattle.std.specs.{Prelude.{◌==◌, bit_or, count_ones}, Int.{bit_at, Bits.{or_zero_r}}}
use Rattle.std.proofs.{lemmas.{Bool.{cases_eq, cases_lt}, List.{length-set, Elements.{All-head, All-tail, All-set, All-from_get_or}}}, Math.ListN.{get_or-eq_default}}
use Rattle.std.proofs.{Math.Nat.{mul_assoc, mul_comm, pow-suc}, lemmas.Nat.{or_lt, pow-add, Bits.{bit_at-zero, bit_at_lowest, bit_at-suc, bit_at_set_same, bit_at_set_other}}}
use Rattle.bit_words.specs.Words.{AreWords, bits_of_words}
use Rattle.bit_words.proofs.BitCounts.{has_either, has_one, same_bits, ones_below}
use Rattle.bit_words.proofs.Counting.{passing_same, passing_grows, passing_or, passing_up, passing_apart, passing_higher, with_other, with_that}
use Rattle.osek_values.specs.Bits.{has_bit, passing_below}
use Rattle.osek_values.proofs.BitCounts.{bits_counted}

-- whether a number's bit is set in words of 64 bits
pub word_has : List ℕ → ℕ → Bool
word_has words n = has_bit (get_or words (n / 64) 0) (n % 64)

pub number_at : (ws : List ℕ) (n : ℕ) → word_has ws n ≡ has_bit (get_or ws (n / 64) 0) (n % 64)
unfolding word_has
number_at ws n = refl

pub number_past : (ws : List ℕ) (n : ℕ) → length ws ≤ n / 64 → word_has ws n ≡ false
number_past ws n le = number_at ws n ∙ ap (λ w. has_bit w (n % 64)) (get_or-eq_default ws 0 le) ∙ ap (λ b. b == 1) (bit_at-zero (n % 64))

-- words with the same word at the number's place
pub number_same : (ws vs : List ℕ) (n : ℕ) → get_or ws (n / 64) 0 ≡ get_or vs (n / 64) 0 → word_has ws n ≡ word_has vs n
number_same ws vs n e = number_at ws n ∙ ap (λ w. has_bit w (n % 64)) e ∙ sym (number_at vs n)

bits_grow : (a b k : ℕ) → has_bit a k ≡ true → has_bit (bit_or a b) k ≡ true
bits_grow a b k e = has_either a b k ∙ ap (λ (c : Bool). c || has_bit b k) e

pub ones_grow : (a b : ℕ) → a < 2 ^ 64 → b < 2 ^ 64 → count_ones a ≤ count_ones (bit_or a b)
ones_grow a b lt less =
    let more = passing_grows (has_bit a) (has_bit (bit_or a b)) 64 (λ k _. bits_grow a b k) in
    omega (arith, more, ones_below a 64 lt, ones_below (bit_or a b) 64 (or_lt 64 a b lt less))

below_power : (n : ℕ) → n < 2 ^ n
below_power zero = omega arith
below_power (suc n) = omega (arith, below_power n, pow-suc 2 n)

-- a number all of whose bits another has, has no more of them
pub ones_within : (m n : ℕ) → n ≡ bit_or n m → count_ones m ≤ count_ones n
ones_within m n all =
    let w = m + n in
    let power = below_power w in
    let has : (k : ℕ) → has_bit m k ≡ true → has_bit n k ≡ true = λ k e. ap (λ (i : ℕ). has_bit i k) all ∙ has_either n m k ∙ ap (λ (b : Bool). has_bit n k || b) e ∙ or_true (has_bit n k) in
    let more = passing_grows (has_bit m) (has_bit n) w (λ k _. has k) in
    omega (arith, more, ones_below m w (omega (arith, power)), ones_below n w (omega (arith, power)))
  where
    or_true : (b : Bool) → (b || true) ≡ true
    or_true true = refl
    or_true false = refl

pub ones_of_either : (a b : ℕ) → a < 2 ^ 64 → b < 2 ^ 64 → count_ones (bit_or a b) ≤ count_ones a + count_ones b
ones_of_either a b lt less =
    let few = passing_or (has_bit a) (has_bit b) (has_bit (bit_or a b)) 64 (λ k _. has_either a b k) in
    omega (arith, few, ones_below a 64 lt, ones_below b 64 less, ones_below (bit_or a b) 64 (or_lt 64 a b lt less))

-- the numbers of one word more
pub word_counted : (ws : List ℕ) (k w : ℕ) → w < 2 ^ 64 → get_or ws k 0 ≡ w → passing_below (word_has ws) (64 * (k + 1)) ≡ passing_below (word_has ws) (64 * k) + count_ones w
word_counted ws k w lt at =
    let each : (i : ℕ) → i < 64 → word_has ws (64 * k + i) ≡ has_bit w i = λ i less.
    (let place : (64 * k + i) / 64 ≡ k = omega (arith, less) in
    let bit : (64 * k + i) % 64 ≡ i = omega (arith, less) in
    number_at ws (64 * k + i) ∙ ap₂ (λ (v j : ℕ). has_bit v j) (ap (λ j. get_or ws j 0) place ∙ at) bit) in
    let ones = bits_counted (word_has ws) 64 (64 * k) w lt each in
    let up = passing_up (word_has ws) (64 * k) 64 in
    let end : 64 * (k + 1) ≡ 64 * k + 64 = omega arith in
    ap (passing_below (word_has ws)) end ∙ up ∙ omega (arith, ones)

-- a bit that is set
pub number_put : (ws : List ℕ) (x n : ℕ) → x / 64 < length ws
    → word_has (set ws (x / 64) (bit_or (get_or ws (x / 64) 0) (1 * 2 ^ (x % 64) % 2 ^ 64))) n ≡ (word_has ws n || n == x)
number_put ws x n lt = elim (cases_eq (n / 64) (x / 64)) [
  | inl same ↦
      (let at : get_or new (n / 64) 0 ≡ word = ap (λ j. get_or new j 0) same ∙ get_or-set_same ws (x / 64) word 0 lt in
      let old : get_or ws (x / 64) 0 ≡ get_or ws (n / 64) 0 = ap (λ j. get_or ws j 0) (sym same) in
      elim (cases_eq (n % 64) (x % 64)) [
        | inl equal ↦
            (let number : n ≡ x = omega (arith, same, equal) in
            number_at new n ∙ ap (λ w. has_bit w (n % 64)) at ∙ ap (has_bit word) equal ∙ ap (λ b. b == 1) (bit_at_set_same w64 (get_or ws (x / 64) 0) (x % 64) (omega arith)) ∙ sym (with_that (word_has ws n) n x number))
        | inr differ ↦
            number_at new n ∙ ap (λ w. has_bit w (n % 64)) at ∙ ap (λ b. b == 1) (bit_at_set_other w64 (get_or ws (x / 64) 0) (x % 64) (omega arith) (n % 64) differ)
            ∙ ap (λ w. has_bit w (n % 64)) old ∙ sym (number_at ws n) ∙ sym (with_other (word_has ws n) n x (λ e. differ (ap (λ m. m % 64) e)))
      ])
  | inr differ ↦
      number_same new ws n (get_or-set_other ws (x / 64) (n / 64) word 0 differ) ∙ sym (with_other (word_has ws n) n x (λ e. differ (ap (λ m. m / 64) e)))
]
  where
    word : ℕ
    word = bit_or (get_or ws (x / 64) 0) (1 * 2 ^ (x % 64) % 2 ^ 64)

    new : List ℕ
    new = set ws (x / 64) word

-- words that are joined up to a place
pub record AreJoinedUpTo (before other : List ℕ) (k : ℕ) (now : List ℕ) (added : ℕ) : Type 0 where
  pub as_long : length now ≡ length before
  pub joined : (i : ℕ) → i < k → get_or now i 0 ≡ bit_or (get_or before i 0) (get_or other i 0)
  pub kept : (i : ℕ) → k ≤ i → get_or now i 0 ≡ get_or before i 0
  pub count : passing_below (word_has now) (64 * k) ≡ passing_below (word_has before) (64 * k) + added
  pub few : added ≤ passing_below (word_has other) (64 * k)

module _ (before other now : List ℕ) (k added w o n : ℕ) (so_far : AreJoinedUpTo before other k now added) (known : k < length now)
    (word : get_or now k 0 ≡ w) (its : get_or other k 0 ≡ o) (small : w < 2 ^ 64) (small_too : o < 2 ^ 64) (more : count_ones (bit_or w o) ≡ count_ones w + n) (few : n ≤ count_ones o) where
  after : List ℕ
  after = set now k (bit_or w o)

  here : get_or after k 0 ≡ bit_or w o
  unfolding after
  here = get_or-set_same now k (bit_or w o) 0 known

  there : (i : ℕ) → i ≢ k → get_or after i 0 ≡ get_or now i 0
  unfolding after
  there i differ = get_or-set_other now k i (bit_or w o) 0 differ

  below : passing_below (word_has after) (64 * k) ≡ passing_below (word_has now) (64 * k)
  below = passing_same (word_has after) (word_has now) (64 * k) (λ j lt. number_same after now j (there (j / 64) (λ e. omega (arith, e, lt))))

  counted : passing_below (word_has after) (64 * (k + 1)) ≡ passing_below (word_has before) (64 * (k + 1)) + (added + n)
  counted =
      let new = word_counted after k (bit_or w o) (or_lt 64 w o small small_too) here in
      let old = word_counted before k w small (sym (so_far.kept k (omega arith)) ∙ word) in
      omega (arith, new, old, below, so_far.count, more)

  kept_few : added + n ≤ passing_below (word_has other) (64 * (k + 1))
  kept_few = let its_own = word_counted other k o small_too its in omega (arith, its_own, so_far.few, few)

  pub joined_one_more : AreJoinedUpTo before other (k + 1) (set now k (bit_or w o)) (added + n)
  unfolding after
  joined_one_more = record {
    as_long = length-set now k (bit_or w o) ∙ so_far.as_long;
    joined = λ i lt. elim (cases_eq i k) [
      | inl same ↦ ap (λ j. get_or after j 0) same ∙ here ∙ ap₂ bit_or (sym word ∙ so_far.kept k (omega arith)) (sym its) ∙ ap (λ j. bit_or (get_or before j 0) (get_or other j 0)) (sym same)
      | inr differ ↦ there i differ ∙ so_far.joined i (omega (arith, lt, differ))
    ];
    kept = λ i le. there i (λ e. omega (arith, e, le)) ∙ so_far.kept i (omega (arith, le));
    count = counted;
    few = kept_few;
  }

-- each word, also past the other's end
pub nothing_new : (before other : List ℕ) → ((i : ℕ) → i < length other → get_or before i 0 ≡ bit_or (get_or before i 0) (get_or other i 0)) → AreJoinedUpTo before other (length other) before 0
nothing_new before other has = record { as_long = refl; joined = has; kept = λ i le. refl; count = omega arith; few = omega arith }

pub each_joined : (before other now : List ℕ) (k added : ℕ) → length other ≤ k → AreJoinedUpTo before other k now added → (i : ℕ) → get_or now i 0 ≡ bit_or (get_or before i 0) (get_or other i 0)
each_joined before other now k added whole h i = elim (cases_lt i k) [
  | inl lt ↦ h.joined i lt
  | inr le ↦ h.kept i le ∙ sym (ap (bit_or (get_or before i 0)) (get_or-eq_default other 0 (omega (arith, whole, le))) ∙ or_zero_r (get_or before i 0))
]

or_none : (b : Bool) → b ≡ (b || false)
or_none true = refl
or_none false = refl

-- words of which those up to a place have the others' bits too
pub record AreEitherUpTo (before other : List ℕ) (k : ℕ) (now : List ℕ) : Type 0 where
  pub as_long : length now ≡ length before
  pub either : (i : ℕ) → i < k → get_or now i 0 ≡ bit_or (get_or before i 0) (get_or other i 0)
  pub kept : (i : ℕ) → k ≤ i → get_or now i 0 ≡ get_or before i 0

pub joined_either : (before other now : List ℕ) (k added : ℕ) → AreJoinedUpTo before other k now added → AreEitherUpTo before other k now
joined_either before other now k added h = record { as_long = h.as_long; either = h.joined; kept = h.kept }

pub all_either : (before other now : List ℕ) (k : ℕ) → length other ≤ k → AreEitherUpTo before other k now
    → (n : ℕ) → word_has now n ≡ (word_has before n || word_has other n)
all_either before other now k whole h n = elim (cases_lt (n / 64) k) [
  | inl lt ↦
      number_at now n ∙ ap (λ w. has_bit w (n % 64)) (h.either (n / 64) lt) ∙ has_either (get_or before (n / 64) 0) (get_or other (n / 64) 0) (n % 64)
      ∙ ap₂ (λ (a b : Bool). a || b) (sym (number_at before n)) (sym (number_at other n))
  | inr le ↦
      number_same now before n (h.kept (n / 64) le) ∙ or_none (word_has before n)
      ∙ ap (λ (b : Bool). word_has before n || b) (sym (number_past other n (omega (arith, whole, le))))
]

-- ---- the number whose bits are those of the words

twice : (k m : ℕ) → 2 ^ (suc k) * m ≡ 2 * (2 ^ k * m)
twice k m =
    ap (λ p. p * m) (pow-suc 2 k) ∙ mul_assoc (2 ^ k) 2 m ∙ mul_comm (2 ^ k) (2 * m) ∙ mul_assoc 2 m (2 ^ k) ∙ ap (λ p. 2 * p) (mul_comm m (2 ^ k))

module _ (m : ℕ) where
  shifted : (k w : ℕ) → (w + 2 ^ (suc k) * m) / 2 ≡ w / 2 + 2 ^ k * m
  shifted k w =
      let double = twice k m in
      omega (arith, double)

  lowest : (k w : ℕ) → (w + 2 ^ (suc k) * m) % 2 ≡ w % 2
  lowest k w =
      let double = twice k m in
      omega (arith, double)

  pub low_bit : (k w n : ℕ) → n < k → bit_at (w + 2 ^ k * m) n ≡ bit_at w n
  low_bit zero w n lt = absurd (omega (arith, lt))
  low_bit (suc k) w zero lt = bit_at_lowest (w + 2 ^ (suc k) * m) ∙ lowest k w ∙ sym (bit_at_lowest w)
  low_bit (suc k) w (suc n) lt = bit_at-suc (w + 2 ^ (suc k) * m) n ∙ ap (λ x. bit_at x n) (shifted k w) ∙ low_bit k (w / 2) n (omega (arith, lt)) ∙ sym (bit_at-suc w n)

  pub high_bit : (k w n : ℕ) → w < 2 ^ k → bit_at (w + 2 ^ k * m) (k + n) ≡ bit_at m n
  high_bit zero w n lt =
      let none : w + 2 ^ 0 * m ≡ m = omega (arith, lt) in
      let same : 0 + n ≡ n = omega arith in
      ap₂ bit_at none same
  high_bit (suc k) w n lt =
      let same : suc k + n ≡ suc (k + n) = omega arith in
      let less : w / 2 < 2 ^ k = omega (arith, lt, pow-suc 2 k) in
      ap (bit_at (w + 2 ^ (suc k) * m)) same ∙ bit_at-suc (w + 2 ^ (suc k) * m) (k + n) ∙ ap (λ x. bit_at x (k + n)) (shifted k w) ∙ high_bit k (w / 2) n less

pub small_at : (ws : List ℕ) (k : ℕ) → AreWords ws → get_or ws k 0 < 2 ^ 64
small_at ws k small = elim (cases_lt k (length ws)) [
  | inl lt ↦ small k 0 lt
  | inr le ↦ (let none = get_or-eq_default ws 0 le in omega (arith, none))
]

pub has_of_words : (ws : List ℕ) (n : ℕ) → AreWords ws → has_bit (bits_of_words ws) n ≡ word_has ws n
unfolding bits_of_words
has_of_words [] n small = ap (λ b. b == 1) (bit_at-zero n) ∙ sym (number_past [] n (omega arith))
has_of_words (w ∷ ws) n small = elim (cases_lt n 64) [
  | inl lt ↦
      (let place : n / 64 ≡ 0 = omega (arith, lt) in
      let bit : n % 64 ≡ n = omega (arith, lt) in
      ap (λ b. b == 1) (low_bit (bits_of_words ws) 64 w n lt) ∙ sym (ap₂ (λ (i k : ℕ). has_bit (get_or (w ∷ ws) i 0) k) place bit) ∙ sym (number_at (w ∷ ws) n))
  | inr le ↦
      (let j = n - 64 in
      let at : n ≡ 64 + j = omega (arith, le) in
      let place : n / 64 ≡ suc (j / 64) = omega (arith, at) in
      let bit : n % 64 ≡ j % 64 = omega (arith, at) in
      ap (has_bit (w + 2 ^ 64 * bits_of_words ws)) at ∙ ap (λ b. b == 1) (high_bit (bits_of_words ws) 64 w j (All-head (λ v. v < 2 ^ 64) w ws small))
      ∙ has_of_words ws j (All-tail (λ v. v < 2 ^ 64) w ws small) ∙ number_at ws j
      ∙ sym (ap₂ (λ (i k : ℕ). has_bit (get_or (w ∷ ws) i 0) k) place bit) ∙ sym (number_at (w ∷ ws) n))
]

small_bits : (ws : List ℕ) → AreWords ws → bits_of_words ws < 2 ^ (64 * length ws)
unfolding bits_of_words
small_bits [] small = lit< tt
small_bits (w ∷ ws) small =
    let first : w < 2 ^ 64 = All-head (λ v. v < 2 ^ 64) w ws small in
    let rest : bits_of_words ws < 2 ^ (64 * length ws) = small_bits ws (All-tail (λ v. v < 2 ^ 64) w ws small) in
    let long : 64 * length (w ∷ ws) ≡ 64 + 64 * length ws = omega arith in
    let whole : 2 ^ (64 * length (w ∷ ws)) ≡ 2 ^ 64 * 2 ^ (64 * length ws) = ap (λ n. 2 ^ n) long ∙ pow-add 2 64 (64 * length ws) in
    omega (arith, first, rest, whole)

pub ones_of_words : (ws : List ℕ) → AreWords ws → passing_below (word_has ws) (64 * length ws) ≡ count_ones (bits_of_words ws)
ones_of_words ws small =
    sym (passing_same (has_bit (bits_of_words ws)) (word_has ws) (64 * length ws) (λ n _. has_of_words ws n small))
    ∙ ones_below (bits_of_words ws) (64 * length ws) (small_bits ws small)

-- words of no bit at the end
none_of : (n : ℕ) → bits_of_words (replicate n 0) ≡ 0
unfolding bits_of_words
none_of zero = refl
none_of (suc n) = (let rest = none_of n in omega (arith, rest))

pub bits_widened : (ws : List ℕ) (n : ℕ) → bits_of_words (ws ++ replicate n 0) ≡ bits_of_words ws
unfolding bits_of_words
bits_widened [] n = none_of n
bits_widened (w ∷ ws) n = ap (λ m. w + 2 ^ 64 * m) (bits_widened ws n)

-- a word at each place; past the end it is 0
pub word_widened : (ws : List ℕ) (i : ℕ) → get_or (ws ++ replicate 1 0) i 0 ≡ get_or ws i 0
word_widened [] zero = refl
word_widened [] (suc i) = refl
word_widened (w ∷ ws) zero = refl
word_widened (w ∷ ws) (suc i) = word_widened ws i

-- a bit more, and bits of both
pub bits_put : (ws vs : List ℕ) (x : ℕ) → AreWords ws → AreWords vs → ((n : ℕ) → word_has vs n ≡ (word_has ws n || n == x)) → bits_of_words vs ≡ bit_or (bits_of_words ws) (2 ^ x)
bits_put ws vs x small too h = same_bits (bits_of_words vs) (bit_or (bits_of_words ws) (2 ^ x)) (λ n.
    has_of_words vs n too ∙ h n ∙ sym (has_either (bits_of_words ws) (2 ^ x) n ∙ ap₂ (λ (a b : Bool). a || b) (has_of_words ws n small) (has_one x n)))

pub bits_joined : (ws us vs : List ℕ) → AreWords ws → AreWords us → AreWords vs → ((n : ℕ) → word_has vs n ≡ (word_has ws n || word_has us n)) → bits_of_words vs ≡ bit_or (bits_of_words ws) (bits_of_words us)
bits_joined ws us vs small its too h = same_bits (bits_of_words vs) (bit_or (bits_of_words ws) (bits_of_words us)) (λ n.
    has_of_words vs n too ∙ h n ∙ sym (has_either (bits_of_words ws) (bits_of_words us) n ∙ ap₂ (λ (a b : Bool). a || b) (has_of_words ws n small) (has_of_words us n its)))

-- a word in the place of another
-- words that have all bits of others
pub all_there : (ws us : List ℕ) → AreWords ws → AreWords us → ((i : ℕ) → i < length us → get_or ws i 0 ≡ bit_or (get_or ws i 0) (get_or us i 0)) → bits_of_words ws ≡ bit_or (bits_of_words ws) (bits_of_words us)
all_there ws us small its each =
    bits_joined ws us ws small its small
    (all_either ws us ws (length us) (omega arith) (joined_either ws us ws (length us) 0 (nothing_new ws us each)))

pub words_with : (ws : List ℕ) (k w : ℕ) → AreWords ws → w < 2 ^ 64 → AreWords (set ws k w)
words_with ws k w small lt = All-set (λ v. v < 2 ^ 64) ws k w lt small

module _ (before other now : List ℕ) (k : ℕ) (small : AreWords before) (its : AreWords other) (h : AreEitherUpTo before other k now) where
  pub either_words : AreWords now
  either_words = All-from_get_or (λ v. v < 2 ^ 64) now 0 (λ i lt. elim (cases_lt i k) [
    | inl below ↦
        subst (λ v. v < 2 ^ 64) (sym (h.either i below))
        (or_lt 64 (get_or before i 0) (get_or other i 0) (small_at before i small) (small_at other i its))
    | inr above ↦ subst (λ v. v < 2 ^ 64) (sym (h.kept i above)) (small_at before i small)
  ])

  pub bits_either : length other ≤ k → bits_of_words now ≡ bit_or (bits_of_words before) (bits_of_words other)
  bits_either whole = bits_joined before other now small its either_words (all_either before other now k whole h)

module _ (before other now : List ℕ) (k added : ℕ) (small : AreWords before) (its : AreWords other) (h : AreJoinedUpTo before other k now added) where
  pub joined_words : AreWords now
  joined_words = either_words before other now k small its (joined_either before other now k added h)

  pub joined_few : k ≤ length other → added ≤ count_ones (bits_of_words other)
  joined_few le =
      let more = passing_higher (word_has other) (64 * k) (64 * length other) (omega (arith, le)) in
      omega (arith, h.few, more, ones_of_words other its)

  pub joined_count : k ≤ length before → count_ones (bits_of_words now) ≡ count_ones (bits_of_words before) + added
  joined_count le =
      let apart =
      passing_apart (word_has now) (word_has before) (64 * k) (64 * length before) added (omega (arith, le)) h.count
      (λ j above. number_same now before j (h.kept (j / 64) (omega (arith, above)))) in
      let whole : passing_below (word_has now) (64 * length before) ≡ count_ones (bits_of_words now) =
      ap (λ n. passing_below (word_has now) (64 * n)) (sym h.as_long) ∙ ones_of_words now joined_words in
      omega (arith, apart, whole, ones_of_words before small)
