-- A word before others: what becomes of the number whose bits they are.
use Rattle.std.proofs.Common.{◌≡◌, ◌≢◌, ℕ, ◌+◌, ◌-◌, ◌*◌, ◌^◌, ◌<◌, ◌≤◌, List, [], ◌∷◌, length, refl, sym, ap, ap₂, ◌∙◌, inl, inr, arith}
use Rattle.std.specs.{Prelude.{◌==◌, bit_and, bit_or, count_ones}, Int.Bits.{or_zero_r}}
use Rattle.std.proofs.lemmas.{Bool.{cases_eq, eq-eqb, ne_eqb}, Nat.{or_block, and_block, ones_cat, pow_below, pow-add}}
use Rattle.bit_words.specs.Words.{bits_of_words}
use Rattle.bit_words.proofs.{WordLaws.{low_bit, high_bit}}
use Rattle.osek_values.specs.Bits.{has_bit}

pub word_first : (w : ℕ) (ws : List ℕ) → bits_of_words (w ∷ ws) ≡ bits_of_words ws * 2 ^ 64 + w
unfolding bits_of_words
word_first w ws = omega arith

pub has_low : (w : ℕ) (ws : List ℕ) (n : ℕ) → n < 64 → has_bit (bits_of_words (w ∷ ws)) n ≡ has_bit w n
unfolding bits_of_words
has_low w ws n lt = ap (λ b. b == 1) (low_bit (bits_of_words ws) 64 w n lt)

pub has_higher : (w : ℕ) (ws : List ℕ) (n : ℕ) → w < 2 ^ 64 → 64 ≤ n → has_bit (bits_of_words (w ∷ ws)) n ≡ has_bit (bits_of_words ws) (n - 64)
unfolding bits_of_words
has_higher w ws n lt le =
    let at : n ≡ 64 + (n - 64) = omega (arith, le) in
    ap (has_bit (w + 2 ^ 64 * bits_of_words ws)) at ∙ ap (λ b. b == 1) (high_bit (bits_of_words ws) 64 w (n - 64) lt)

pub either_first : (a b : ℕ) (ws us vs : List ℕ) → a < 2 ^ 64 → b < 2 ^ 64 → bits_of_words vs ≡ bit_or (bits_of_words ws) (bits_of_words us)
    → bits_of_words (bit_or a b ∷ vs) ≡ bit_or (bits_of_words (a ∷ ws)) (bits_of_words (b ∷ us))
either_first a b ws us vs lt less rest =
    word_first (bit_or a b) vs ∙ ap (λ m. m * 2 ^ 64 + bit_or a b) rest
    ∙ sym (ap₂ bit_or (word_first a ws) (word_first b us) ∙ or_block 64 (bits_of_words ws) (bits_of_words us) a b lt less)

pub both_first : (a b : ℕ) (ws us vs : List ℕ) → a < 2 ^ 64 → b < 2 ^ 64 → bits_of_words vs ≡ bit_and (bits_of_words ws) (bits_of_words us)
    → bits_of_words (bit_and a b ∷ vs) ≡ bit_and (bits_of_words (a ∷ ws)) (bits_of_words (b ∷ us))
both_first a b ws us vs lt less rest =
    word_first (bit_and a b) vs ∙ ap (λ m. m * 2 ^ 64 + bit_and a b) rest
    ∙ sym (ap₂ bit_and (word_first a ws) (word_first b us) ∙ and_block 64 (bits_of_words ws) (bits_of_words us) a b lt less)

pub ones_first : (w : ℕ) (ws : List ℕ) → w < 2 ^ 64 → count_ones (bits_of_words (w ∷ ws)) ≡ count_ones (bits_of_words ws) + count_ones w
ones_first w ws lt = ap count_ones (word_first w ws) ∙ ones_cat 64 (bits_of_words ws) w lt

-- a number's bit in the first word, and in those after it
pub put_first : (a n : ℕ) (ws : List ℕ) → a < 2 ^ 64 → n < 64 → bits_of_words (bit_or a (2 ^ n) ∷ ws) ≡ bit_or (bits_of_words (a ∷ ws)) (2 ^ n)
put_first a n ws lt less =
    let one : 2 ^ n ≡ 0 * 2 ^ 64 + 2 ^ n = omega arith in
    word_first (bit_or a (2 ^ n)) ws ∙ ap (λ m. m * 2 ^ 64 + bit_or a (2 ^ n)) (sym (or_zero_r (bits_of_words ws)))
    ∙ sym (ap₂ bit_or (word_first a ws) one ∙ or_block 64 (bits_of_words ws) 0 a (2 ^ n) lt (pow_below n 64 less))

pub put_after : (a n : ℕ) (ws vs : List ℕ) → a < 2 ^ 64 → 64 ≤ n → bits_of_words vs ≡ bit_or (bits_of_words ws) (2 ^ (n - 64)) → bits_of_words (a ∷ vs) ≡ bit_or (bits_of_words (a ∷ ws)) (2 ^ n)
put_after a n ws vs lt le rest =
    let at : n ≡ (n - 64) + 64 = omega (arith, le) in
    let one : 2 ^ n ≡ 2 ^ (n - 64) * 2 ^ 64 + 0 = ap (λ k. 2 ^ k) at ∙ pow-add 2 (n - 64) 64 ∙ omega arith in
    word_first a vs ∙ ap₂ (λ m w. m * 2 ^ 64 + w) rest (sym (or_zero_r a))
    ∙ sym (ap₂ bit_or (word_first a ws) one ∙ or_block 64 (bits_of_words ws) (2 ^ (n - 64)) a 0 lt (omega arith))

-- no bit
pub none_first : (w : ℕ) (ws : List ℕ) → w ≡ 0 → bits_of_words ws ≡ 0 → bits_of_words (w ∷ ws) ≡ 0
none_first w ws none rest = (let first = word_first w ws in omega (arith, first, none, rest))

pub some_first : (w : ℕ) (ws : List ℕ) → w ≢ 0 → bits_of_words (w ∷ ws) ≢ 0
some_first w ws some e = (let first = word_first w ws in let none : w ≡ 0 = omega (arith, first, e) in some none)

pub some_after : (w : ℕ) (ws : List ℕ) → bits_of_words ws ≢ 0 → bits_of_words (w ∷ ws) ≢ 0
some_after w ws some e = (let first = word_first w ws in let none : bits_of_words ws ≡ 0 = omega (arith, first, e) in some none)

-- ---- a word and a second one

pub has_high : (a b : ℕ) (ws : List ℕ) (n : ℕ) → a < 2 ^ 64 → 64 ≤ n → n < 128 → has_bit (bits_of_words (a ∷ b ∷ ws)) n ≡ has_bit b (n - 64)
has_high a b ws n fits le lt = has_higher a (b ∷ ws) n fits le ∙ has_low b ws (n - 64) (omega (arith, lt))

pub has_further : (a b : ℕ) (ws : List ℕ) (n : ℕ) → a < 2 ^ 64 → b < 2 ^ 64 → 128 ≤ n → has_bit (bits_of_words (a ∷ b ∷ ws)) n ≡ has_bit (bits_of_words ws) (n - 128)
has_further a b ws n fits too le =
    let same : (n - 64) - 64 ≡ n - 128 = omega (arith, le) in
    has_higher a (b ∷ ws) n fits (omega (arith, le)) ∙ has_higher b ws (n - 64) too (omega (arith, le)) ∙ ap (has_bit (bits_of_words ws)) same

pub put_high : (a b n : ℕ) (ws : List ℕ) → a < 2 ^ 64 → b < 2 ^ 64 → 64 ≤ n → n < 128 → bits_of_words (a ∷ bit_or b (2 ^ (n - 64)) ∷ ws) ≡ bit_or (bits_of_words (a ∷ b ∷ ws)) (2 ^ n)
put_high a b n ws fits too le lt = put_after a n (b ∷ ws) (bit_or b (2 ^ (n - 64)) ∷ ws) fits le (put_first b (n - 64) ws too (omega (arith, lt)))

pub put_further : (a b n : ℕ) (ws vs : List ℕ) → a < 2 ^ 64 → b < 2 ^ 64 → 128 ≤ n → bits_of_words vs ≡ bit_or (bits_of_words ws) (2 ^ (n - 128)) → bits_of_words (a ∷ b ∷ vs) ≡ bit_or (bits_of_words (a ∷ b ∷ ws)) (2 ^ n)
put_further a b n ws vs fits too le rest =
    let same : n - 128 ≡ (n - 64) - 64 = omega (arith, le) in
    put_after a n (b ∷ ws) (b ∷ vs) fits (omega (arith, le)) (put_after b (n - 64) ws vs too (omega (arith, le)) (rest ∙ ap (λ k. bit_or (bits_of_words ws) (2 ^ k)) same))

pub same_further : (a b : ℕ) (ws vs : List ℕ) → bits_of_words vs ≡ bits_of_words ws → bits_of_words (a ∷ b ∷ vs) ≡ bits_of_words (a ∷ b ∷ ws)
same_further a b ws vs rest = word_first a (b ∷ vs) ∙ ap (λ m. m * 2 ^ 64 + a) (word_first b vs ∙ ap (λ m. m * 2 ^ 64 + b) rest ∙ sym (word_first b ws)) ∙ sym (word_first a (b ∷ ws))

pub ones_of_two : (a b : ℕ) (ws : List ℕ) → a < 2 ^ 64 → b < 2 ^ 64 → count_ones (bits_of_words (a ∷ b ∷ ws)) ≡ count_ones (bits_of_words ws) + count_ones b + count_ones a
ones_of_two a b ws fits too = (let first = ones_first a (b ∷ ws) fits in let second = ones_first b ws too in omega (arith, first, second))

module _ (a b x y : ℕ) (ws us vs : List ℕ) (fits : a < 2 ^ 64) (too : b < 2 ^ 64) (its : x < 2 ^ 64) (its_too : y < 2 ^ 64) where
  pub either_two : bits_of_words vs ≡ bit_or (bits_of_words ws) (bits_of_words us) → bits_of_words (bit_or a x ∷ bit_or b y ∷ vs) ≡ bit_or (bits_of_words (a ∷ b ∷ ws)) (bits_of_words (x ∷ y ∷ us))
  either_two rest = either_first a x (b ∷ ws) (y ∷ us) (bit_or b y ∷ vs) fits its (either_first b y ws us vs too its_too rest)

  pub both_two : bits_of_words vs ≡ bit_and (bits_of_words ws) (bits_of_words us) → bits_of_words (bit_and a x ∷ bit_and b y ∷ vs) ≡ bit_and (bits_of_words (a ∷ b ∷ ws)) (bits_of_words (x ∷ y ∷ us))
  both_two rest = both_first a x (b ∷ ws) (y ∷ us) (bit_and b y ∷ vs) fits its (both_first b y ws us vs too its_too rest)

pub bits_of_none : (us : List ℕ) → length us ≡ 0 → bits_of_words us ≡ 0
unfolding bits_of_words
bits_of_none [] none = refl
bits_of_none (u ∷ us) none = absurd (omega (arith, none))

pub clear_two : (a b : ℕ) (ws : List ℕ) → a ≡ 0 → b ≡ 0 → (bits_of_words ws == 0) ≡ (bits_of_words (a ∷ b ∷ ws) == 0)
clear_two a b ws none too = elim (cases_eq (bits_of_words ws) 0) [
  | inl e ↦ eq-eqb (bits_of_words ws) 0 e ∙ sym (eq-eqb (bits_of_words (a ∷ b ∷ ws)) 0 (none_first a (b ∷ ws) none (none_first b ws too e)))
  | inr some ↦ ne_eqb (bits_of_words ws) 0 some ∙ sym (ne_eqb (bits_of_words (a ∷ b ∷ ws)) 0 (some_after a (b ∷ ws) (some_after b ws some)))
]
