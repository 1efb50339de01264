-- Words of bits: those that other words lack, and whether some bit is in both.
use Rattle.std.proofs.Common.{◌≡◌, ◌≢◌, ℕ, zero, suc, ◌+◌, ◌*◌, ◌/◌, ◌%◌, ◌^◌, ◌<◌, ◌≤◌, Bool, ◌&&◌, ◌||◌, true, false, not, List, [], ◌∷◌, length, get_or, refl, sym, ap, ap₂, subst, ◌∙◌, inl, inr, arith, min}
use Rattle.std.proofs.Math.ListN.{get_or-eq_default}
use Rattle.std.specs.{Prelude.{◌==◌, bit_and, bit_or, bit_xor}, Int.{bit_at, Bits.{and_zero_r}}}
use Rattle.std.proofs.lemmas.{Bool.{cases_eq, cases_lt, eq-eqb, ne_eqb}, List.Elements.{All-head, All-tail, All-from_get_or}}
use Rattle.std.proofs.lemmas.Nat.{and_comm, and_le_l, le_or_l, le_or_r, and_block, xor_block, xor_lt, Bits.{bit_at_and, bit_at_xor, bit_at-lt, bit_at-zero}}
use Rattle.bit_words.specs.Words.{AreWords, bits_of_words}
use Rattle.bit_words.proofs.{BitCounts.{same_bits, has_either}, WordLaws.{word_has, number_at, number_past, small_at, has_of_words}, FirstWords.{word_first}}
use Rattle.osek_values.specs.Bits.{has_bit}

-- a bit of the first word alone
first_alone : (a b : ℕ) → a < 2 → b < 2 → ((a + min a b) % 2 == 1) ≡ (a == 1 && not (b == 1))
first_alone zero zero h k = refl
first_alone zero (suc zero) h k = refl
first_alone (suc zero) zero h k = refl
first_alone (suc zero) (suc zero) h k = refl
first_alone zero (suc (suc b)) h k = absurd (omega (arith, k))
first_alone (suc zero) (suc (suc b)) h k = absurd (omega (arith, k))
first_alone (suc (suc a)) b h k = absurd (omega (arith, h))

pub has_alone : (a b k : ℕ) → has_bit (bit_xor a (bit_and a b)) k ≡ (has_bit a k && not (has_bit b k))
has_alone a b k =
    ap (λ (n : ℕ). n == 1) (bit_at_xor a (bit_and a b) k ∙ ap (λ (n : ℕ). (bit_at a k + n) % 2) (bit_at_and a b k))
    ∙ first_alone (bit_at a k) (bit_at b k) (bit_at-lt a k) (bit_at-lt b k)

pub alone_lt : (a b w : ℕ) → a < 2 ^ w → bit_xor a (bit_and a b) < 2 ^ w
alone_lt a b w lt = xor_lt w a (bit_and a b) lt (let less = and_le_l a b in omega (arith, less, lt))

-- a bit that is not set in the second word alone
implied : (a b : Bool) → (b && not a) ≡ false → a ≡ (a || b)
implied true b h = refl
implied false true h = absurd (cc)
implied false false h = refl

-- where the second word has no bit that the first lacks, it adds none
pub nothing_alone : (w o : ℕ) → bit_xor o (bit_and o w) ≡ 0 → w ≡ bit_or w o
nothing_alone w o none = same_bits w (bit_or w o) (λ k.
    implied (has_bit w k) (has_bit o k) (sym (has_alone o w k) ∙ ap (λ (n : ℕ). has_bit n k) none ∙ ap (λ (n : ℕ). n == 1) (bit_at-zero k)) ∙ sym (has_either w o k))

-- where those of the earlier places and this one lack no bit, none is lacking up to the next
pub still_all : (ws us : List ℕ) (place missing now : ℕ) → now ≡ bit_or missing (bit_xor (get_or us place 0) (bit_and (get_or us place 0) (get_or ws place 0)))
    → (missing ≡ 0 → (i : ℕ) → i < place → get_or ws i 0 ≡ bit_or (get_or ws i 0) (get_or us i 0))
    → now ≡ 0 → (i : ℕ) → i < place + 1 → get_or ws i 0 ≡ bit_or (get_or ws i 0) (get_or us i 0)
still_all ws us place missing now is before none i lt =
    let here = bit_xor (get_or us place 0) (bit_and (get_or us place 0) (get_or ws place 0)) in
    let least = le_or_l missing here in
    let most = le_or_r missing here in
    elim (cases_eq i place) [
      | inl same ↦ subst (λ (k : ℕ). get_or ws k 0 ≡ bit_or (get_or ws k 0) (get_or us k 0)) (sym same) (nothing_alone (get_or ws place 0) (get_or us place 0) (omega (arith, is, none, most)))
      | inr other ↦ before (omega (arith, is, none, least)) i (omega (arith, lt, other))
    ]

-- words of which those up to a place lost the bits of the others
pub record AreLeftOutUpTo (before other : List ℕ) (k : ℕ) (now : List ℕ) : Type 0 where
  pub as_long : length now ≡ length before
  pub cut : (i : ℕ) → i < k → get_or now i 0 ≡ bit_xor (get_or before i 0) (bit_and (get_or before i 0) (get_or other i 0))
  pub kept : (i : ℕ) → k ≤ i → get_or now i 0 ≡ get_or before i 0

module _ (before other now : List ℕ) (k : ℕ) (whole : length before ≤ k) (h : AreLeftOutUpTo before other k now) where
  all_left_out : (n : ℕ) → word_has now n ≡ (word_has before n && not (word_has other n))
  all_left_out n = elim (cases_lt (n / 64) k) [
    | inl lt ↦
        number_at now n ∙ ap (λ w. has_bit w (n % 64)) (h.cut (n / 64) lt) ∙ has_alone (get_or before (n / 64) 0) (get_or other (n / 64) 0) (n % 64)
        ∙ ap₂ (λ (a b : Bool). a && not b) (sym (number_at before n)) (sym (number_at other n))
    | inr le ↦ number_past now n (omega (arith, whole, le, h.as_long)) ∙ ap (λ (b : Bool). b && not (word_has other n)) (sym (number_past before n (omega (arith, whole, le))))
  ]

  left_words : AreWords before → AreWords now
  left_words small = All-from_get_or (λ v. v < 2 ^ 64) now 0 (λ i lt. (
      let at = h.cut i (omega (arith, lt, h.as_long, whole)) in
      let less = alone_lt (get_or before i 0) (get_or other i 0) 64 (small_at before i small) in
      omega (arith, at, less)))

  pub bits_left_out : AreWords before → AreWords other → bits_of_words now ≡ bit_xor (bits_of_words before) (bit_and (bits_of_words before) (bits_of_words other))
  bits_left_out small its = same_bits (bits_of_words now) (bit_xor (bits_of_words before) (bit_and (bits_of_words before) (bits_of_words other))) (λ n.
      has_of_words now n (left_words small) ∙ all_left_out n
      ∙ sym (has_alone (bits_of_words before) (bits_of_words other) n ∙ ap₂ (λ (a b : Bool). a && not b) (has_of_words before n small) (has_of_words other n its)))

-- ---- a word before others

pub alone_first : (a b : ℕ) (ws us vs : List ℕ) → a < 2 ^ 64 → b < 2 ^ 64 → bits_of_words vs ≡ bit_xor (bits_of_words ws) (bit_and (bits_of_words ws) (bits_of_words us))
    → bits_of_words (bit_xor a (bit_and a b) ∷ vs) ≡ bit_xor (bits_of_words (a ∷ ws)) (bit_and (bits_of_words (a ∷ ws)) (bits_of_words (b ∷ us)))
alone_first a b ws us vs lt less rest =
    let few : bit_and a b < 2 ^ 64 = (let le = and_le_l a b in omega (arith, le, lt)) in
    let x = bits_of_words ws in
    let y = bits_of_words us in
    word_first (bit_xor a (bit_and a b)) vs ∙ ap (λ m. m * 2 ^ 64 + bit_xor a (bit_and a b)) rest
    ∙ sym (
    ap₂ (λ m n. bit_xor m (bit_and m n)) (word_first a ws) (word_first b us)
    ∙ ap (bit_xor (x * 2 ^ 64 + a)) (and_block 64 x y a b lt less)
    ∙ xor_block 64 x (bit_and x y) a (bit_and a b) lt few)

module _ (a b x y : ℕ) (ws us vs : List ℕ) (fits : a < 2 ^ 64) (too : b < 2 ^ 64) (its : x < 2 ^ 64) (its_too : y < 2 ^ 64) where
  pub alone_two : bits_of_words vs ≡ bit_xor (bits_of_words ws) (bit_and (bits_of_words ws) (bits_of_words us))
      → bits_of_words (bit_xor a (bit_and a x) ∷ bit_xor b (bit_and b y) ∷ vs) ≡ bit_xor (bits_of_words (a ∷ b ∷ ws)) (bit_and (bits_of_words (a ∷ b ∷ ws)) (bits_of_words (x ∷ y ∷ us)))
  alone_two rest = alone_first a x (b ∷ ws) (y ∷ us) (bit_xor b (bit_and b y) ∷ vs) fits its (alone_first b y ws us vs too its_too rest)

-- ---- some bit in both

pub both_block : (a b : ℕ) (ws us : List ℕ) → a < 2 ^ 64 → b < 2 ^ 64 → bit_and (bits_of_words (a ∷ ws)) (bits_of_words (b ∷ us)) ≡ bit_and (bits_of_words ws) (bits_of_words us) * 2 ^ 64 + bit_and a b
both_block a b ws us lt less = ap₂ bit_and (word_first a ws) (word_first b us) ∙ and_block 64 (bits_of_words ws) (bits_of_words us) a b lt less

pub some_here : (a b : ℕ) (ws us : List ℕ) → a < 2 ^ 64 → b < 2 ^ 64 → bit_and a b ≢ 0 → bit_and (bits_of_words (a ∷ ws)) (bits_of_words (b ∷ us)) ≢ 0
some_here a b ws us lt less some e = (let block = both_block a b ws us lt less in let none : bit_and a b ≡ 0 = omega (arith, block, e) in some none)

pub some_later : (a b : ℕ) (ws us : List ℕ) → a < 2 ^ 64 → b < 2 ^ 64 → bit_and (bits_of_words ws) (bits_of_words us) ≢ 0 → bit_and (bits_of_words (a ∷ ws)) (bits_of_words (b ∷ us)) ≢ 0
some_later a b ws us lt less some e = (let block = both_block a b ws us lt less in let none : bit_and (bits_of_words ws) (bits_of_words us) ≡ 0 = omega (arith, block, e) in some none)

pub none_later : (a b : ℕ) (ws us : List ℕ) → a < 2 ^ 64 → b < 2 ^ 64 → bit_and a b ≡ 0 → bit_and (bits_of_words ws) (bits_of_words us) ≡ 0 → bit_and (bits_of_words (a ∷ ws)) (bits_of_words (b ∷ us)) ≡ 0
none_later a b ws us lt less none rest = (let block = both_block a b ws us lt less in omega (arith, block, none, rest))

pub and_zero_l : (n : ℕ) → bit_and 0 n ≡ 0
and_zero_l n = and_comm 0 n ∙ and_zero_r n

pub none_in_both : (ws us : List ℕ) → AreWords ws → AreWords us → ((i : ℕ) → i < length ws → bit_and (get_or ws i 0) (get_or us i 0) ≡ 0) → bit_and (bits_of_words ws) (bits_of_words us) ≡ 0
unfolding bits_of_words
none_in_both [] us small its none = and_zero_l (bits_of_words us)
none_in_both (w ∷ ws) [] small its none = and_zero_r (bits_of_words (w ∷ ws))
none_in_both (w ∷ ws) (u ∷ us) small its none =
    none_later w u ws us (All-head (λ v. v < 2 ^ 64) w ws small) (All-head (λ v. v < 2 ^ 64) u us its) (none 0 (omega arith))
    (none_in_both ws us (All-tail (λ v. v < 2 ^ 64) w ws small) (All-tail (λ v. v < 2 ^ 64) u us its) (λ i lt. none (suc i) (omega (arith, lt))))

pub some_in_both : (ws us : List ℕ) → AreWords ws → AreWords us → (i : ℕ) → i < length ws → bit_and (get_or ws i 0) (get_or us i 0) ≢ 0 → bit_and (bits_of_words ws) (bits_of_words us) ≢ 0
some_in_both [] us small its i lt some = absurd (omega (arith, lt))
some_in_both (w ∷ ws) [] small its i lt some = absurd (some (ap (bit_and (get_or (w ∷ ws) i 0)) (get_or-eq_default [] 0 {n = i} (omega arith)) ∙ and_zero_r (get_or (w ∷ ws) i 0)))
some_in_both (w ∷ ws) (u ∷ us) small its zero lt some = some_here w u ws us (All-head (λ v. v < 2 ^ 64) w ws small) (All-head (λ v. v < 2 ^ 64) u us its) some
some_in_both (w ∷ ws) (u ∷ us) small its (suc i) lt some =
    some_later w u ws us (All-head (λ v. v < 2 ^ 64) w ws small) (All-head (λ v. v < 2 ^ 64) u us its)
    (some_in_both ws us (All-tail (λ v. v < 2 ^ 64) w ws small) (All-tail (λ v. v < 2 ^ 64) u us its) i (omega (arith, lt)) some)

-- what a test of each word says of the bits
pub met : (n : ℕ) → n ≢ 0 → true ≡ not (n == 0)
met n some = sym (ap not (ne_eqb n 0 some))

pub unmet : (n : ℕ) → n ≡ 0 → false ≡ not (n == 0)
unmet n none = sym (ap not (eq-eqb n 0 none))

pub met_later : (m n : ℕ) → (m ≡ 0 → n ≡ 0) → (m ≢ 0 → n ≢ 0) → not (m == 0) ≡ not (n == 0)
met_later m n none some = elim (cases_eq m 0) [
  | inl e ↦ sym (unmet m e) ∙ unmet n (none e)
  | inr differ ↦ sym (met m differ) ∙ met n (some differ)
]

module _ (a b x y : ℕ) (ws us : List ℕ) (fits : a < 2 ^ 64) (too : b < 2 ^ 64) (its : x < 2 ^ 64) (its_too : y < 2 ^ 64) where
  pub met_in_first : bit_and a x ≢ 0 → true ≡ not (bit_and (bits_of_words (a ∷ b ∷ ws)) (bits_of_words (x ∷ y ∷ us)) == 0)
  met_in_first some = met (bit_and (bits_of_words (a ∷ b ∷ ws)) (bits_of_words (x ∷ y ∷ us))) (some_here a x (b ∷ ws) (y ∷ us) fits its some)

  pub met_in_second : bit_and b y ≢ 0 → true ≡ not (bit_and (bits_of_words (a ∷ b ∷ ws)) (bits_of_words (x ∷ y ∷ us)) == 0)
  met_in_second some = met (bit_and (bits_of_words (a ∷ b ∷ ws)) (bits_of_words (x ∷ y ∷ us))) (some_later a x (b ∷ ws) (y ∷ us) fits its (some_here b y ws us too its_too some))

  pub met_further : bit_and a x ≡ 0 → bit_and b y ≡ 0 → not (bit_and (bits_of_words ws) (bits_of_words us) == 0) ≡ not (bit_and (bits_of_words (a ∷ b ∷ ws)) (bits_of_words (x ∷ y ∷ us)) == 0)
  met_further none none_too =
      met_later (bit_and (bits_of_words ws) (bits_of_words us)) (bit_and (bits_of_words (a ∷ b ∷ ws)) (bits_of_words (x ∷ y ∷ us)))
      (λ e. none_later a x (b ∷ ws) (y ∷ us) fits its none (none_later b y ws us too its_too none_too e))
      (λ some. some_later a x (b ∷ ws) (y ∷ us) fits its (some_later b y ws us too its_too some))
