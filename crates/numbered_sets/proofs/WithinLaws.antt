-- The bits of words that other words lack, and sets of numbers within others.
use Rattle.std.proofs.Common.{◌≡◌, ◌≢◌, ℕ, ◌+◌, ◌<◌, ◌^◌, Bool, true, false, ◌&&◌, not, List, [], ◌∷◌, length, get_or, map, refl, sym, ap, ap₂, ◌∙◌, inl, inr, arith, IsTrue}
use Rattle.std.specs.{Prelude.{◌==◌, bit_or, bit_xor}, List.{range_with_len}, Int.Bits.{xor_zero_l, xor_self}}
use Rattle.std.proofs.{Math.ListN.{get_or-eq_default}, lemmas.{Bool.{cases_eq, cases_lt, eq-eqb, eqb-true, ne_eqb, and_parts}, List.FromFn.{get_or-map-range_with_len, length-map-range_with_len}}}
use Rattle.bit_words.specs.Words.{AreWords, bits_of_words}
use Rattle.bit_words.proofs.{KeptWords.{kept_whole, no_bits, some_bits}, OtherWords.{bits_left_out, alone_two, and_zero_l}, FirstWords.{word_first}}
use Rattle.abstract_state.specs.declared.value.Domain.TheVariants as domain
use Rattle.numbered_sets.specs.{Numbers.{Numbers, numbers, has_number, other_numbers}, SetLists.{set_of}, Within.{bits_beside}}
use Rattle.numbered_sets.proofs.{ViewLaws.{below_power}, KnownNumbers.{no_bit_of_none}, SiftLaws.{some_bit}, MeetLaws.{has_other}}

-- what a test for no bit says
pub none_there : (n : ℕ) → n ≡ 0 → true ≡ (n == 0)
none_there n none = sym (eq-eqb n 0 none)

pub some_there : (n : ℕ) → n ≢ 0 → false ≡ (n == 0)
some_there n some = sym (ne_eqb n 0 some)

module _ (ws us : List ℕ) (small : AreWords ws) (its : AreWords us) where
  abbrev beside_at : ℕ → ℕ
  beside_at i = bits_beside (get_or ws i 0) (get_or us i 0)

  -- the words' bits that the others lack
  abbrev pub words_beside : List ℕ
  words_beside = map beside_at (range_with_len 0 (length ws))

  beside_long : length words_beside ≡ length ws
  beside_long = length-map-range_with_len beside_at 0 (length ws)

  beside_is : (i : ℕ) → i < length ws → get_or words_beside i 0 ≡ beside_at i
  beside_is i lt = (let same : 0 + i ≡ i = omega arith in get_or-map-range_with_len beside_at 0 (length ws) i i 0 lt same)

  pub bits_are_beside : bits_of_words words_beside ≡ bits_beside (bits_of_words ws) (bits_of_words us)
  bits_are_beside =
      bits_left_out ws us words_beside (length ws) (omega arith) (record {
        as_long = beside_long;
        cut = beside_is;
        kept = λ i le. get_or-eq_default words_beside 0 (omega (arith, beside_long, le)) ∙ sym (get_or-eq_default ws 0 le);
      }) small its

  pub none_beside : ((i : ℕ) → i < length ws → beside_at i ≡ 0) → bits_beside (bits_of_words ws) (bits_of_words us) ≡ 0
  none_beside none = sym bits_are_beside ∙ no_bits words_beside (λ i lt. (let there : i < length ws = omega (arith, lt, beside_long) in beside_is i there ∙ none i there))

  pub some_beside : (i : ℕ) → i < length ws → beside_at i ≢ 0 → bits_beside (bits_of_words ws) (bits_of_words us) ≢ 0
  some_beside i lt some e = some_bits words_beside i (omega (arith, lt, beside_long)) (λ none. some (sym (beside_is i lt) ∙ none)) (bits_are_beside ∙ e)

-- no bits lie beside others
pub none_of_none : (m n : ℕ) → m ≡ 0 → bits_beside m n ≡ 0
none_of_none m n none = ap (λ (k : ℕ). bits_beside k n) none ∙ ap (bit_xor 0) (and_zero_l n) ∙ xor_zero_l 0

-- words whose bits the others all have
pub beside_words : (ws us mine its : List ℕ) → mine ≡ ws → its ≡ us
    → ((i : ℕ) → i < length mine → get_or its i 0 ≡ bit_or (get_or its i 0) (get_or mine i 0)) → (i : ℕ) → bits_beside (get_or ws i 0) (get_or us i 0) ≡ 0
beside_words ws us mine its is are has i =
    ap₂ (λ (vs xs : List ℕ). bits_beside (get_or vs i 0) (get_or xs i 0)) (sym is) (sym are) ∙ elim (cases_lt i (length mine)) [
      | inl lt ↦ ap (bit_xor (get_or mine i 0)) (kept_whole (get_or mine i 0) (get_or its i 0) (has i lt)) ∙ xor_self (get_or mine i 0)
      | inr past ↦ none_of_none (get_or mine i 0) (get_or its i 0) (get_or-eq_default mine 0 past)
    ]

-- two words before others
module _ (a b x y : ℕ) (ws us : List ℕ) (fits : a < 2 ^ 64) (too : b < 2 ^ 64) (fit : x < 2 ^ 64) (fit_too : y < 2 ^ 64) where
  abbrev all_beside : ℕ
  all_beside = bits_beside (bits_of_words (a ∷ b ∷ ws)) (bits_of_words (x ∷ y ∷ us))

  abbrev rest_beside : ℕ
  rest_beside = bits_beside (bits_of_words ws) (bits_of_words us)

  abbrev three : List ℕ
  three = bits_beside a x ∷ bits_beside b y ∷ rest_beside ∷ []

  rest_is : bits_of_words (rest_beside ∷ []) ≡ rest_beside
  unfolding bits_of_words
  rest_is = omega arith

  three_are : bits_of_words three ≡ all_beside
  three_are = alone_two a b x y ws us (rest_beside ∷ []) fits too fit fit_too rest_is

  pub some_in_first : bits_beside a x ≢ 0 → false ≡ (all_beside == 0)
  some_in_first some = some_there all_beside (λ e. some_bits three 0 (omega arith) some (three_are ∙ e))

  pub some_in_second : bits_beside b y ≢ 0 → false ≡ (all_beside == 0)
  some_in_second some = some_there all_beside (λ e. some_bits three 1 (omega arith) some (three_are ∙ e))

  pub some_further : bits_beside a x ≡ 0 → bits_beside b y ≡ 0 → (rest_beside == 0) ≡ (all_beside == 0)
  some_further none none_too =
      let first = word_first (bits_beside a x) (bits_beside b y ∷ rest_beside ∷ []) in
      let second = word_first (bits_beside b y) (rest_beside ∷ []) in
      elim (cases_eq rest_beside 0) [
        | inl e ↦ sym (none_there rest_beside e) ∙ none_there all_beside (omega (arith, first, second, rest_is, three_are, none, none_too, e))
        | inr differ ↦ sym (some_there rest_beside differ) ∙ some_there all_beside (λ e. differ (omega (arith, first, second, rest_is, three_are, none, none_too, e)))
      ]

  pub none_in_all : bits_beside a x ≡ 0 → bits_beside b y ≡ 0 → rest_beside ≡ 0 → all_beside ≡ 0
  none_in_all none none_too none_further = eqb-true all_beside 0 (sym (some_further none none_too) ∙ eq-eqb rest_beside 0 none_further)

-- ---- sets

-- a set within another has no number beside it
pub within_set : (x y : Numbers) → (other_numbers x y).bits ≡ 0 → (n : ℕ) → IsTrue (has_number x n) → IsTrue (has_number y n)
within_set x y none n h = by (has_number y n) refl
  where
    by : (b : Bool) → has_number y n ≡ b → b ≡ true
    by true e = refl
    by false e =
        absurd (no_bit_of_none n
        (sym (ap (λ (m : ℕ). has_number (numbers x.domain m) n) none) ∙ has_other x y n ∙ ap₂ (λ (b c : Bool). b && not c) h e))

pub record IsBeside (x y : Numbers) : Type 0 where
  pub number : ℕ
  pub has : IsTrue (has_number x number)
  pub lacks : has_number y number ≡ false

pub number_beside : (x y : Numbers) → (other_numbers x y).bits ≢ 0 → IsBeside x y
number_beside x y some =
    let m = (other_numbers x y).bits in
    let bit = some_bit m m (below_power m) (omega (arith, some)) in
    let both = and_parts (has_number x bit.0) (not (has_number y bit.0)) (sym (has_other x y bit.0) ∙ bit.1) in
    record { number = bit.0; has = both.0; lacks = opposite (has_number y bit.0) both.1 }
  where
    opposite : (b : Bool) → not b ≡ true → b ≡ false
    opposite true e = absurd (cc)
    opposite false e = refl

-- a component past the end has no number
pub none_past : (xs : List Numbers) (c n : ℕ) → length xs < c + 1 → IsTrue (has_number (set_of xs c) n) → ⊥
none_past xs c n past h =
    no_bit_of_none n (sym (ap (λ (x : Numbers). has_number x n) (get_or-eq_default xs (numbers domain.Alarm 0) {n = c} (omega (arith, past)))) ∙ h)
