-- Hexadecimal digits, the last one first.
use Rattle.std.proofs.Common.{◌≡◌, ℕ, zero, suc, ◌+◌, ◌-◌, ◌*◌, ◌/◌, ◌%◌, ◌^◌, ◌<◌, ◌≤◌, false, cond, eqb, List, ◌∷◌, length, take, take_all, drop, set, sym, ◌∙◌, ap, subst, arith, add-one, pow-suc, div-lt_iff_lt-mul}
use Rattle.std.specs.Fmt.{digits_onto, digit_glyph}
use Rattle.std.proofs.{lemmas.{Bool.{ne_eqb}, List.{drop-set, length-drop, drop-take, take-take, length-take-le}}, Math.{ListN.{length-set}, Seq.{take-set-lt}}}

-- a digit is parted off
pub digit_more : (k n : ℕ) (acc : List ℕ) → 16 ≤ n → digits_onto (suc k) 16 false n acc ≡ digits_onto k 16 false (n / 16) (digit_glyph false (n % 16) ∷ acc)
digit_more k n acc h =
    let more : eqb (n / 16) 0 ≡ false = ne_eqb (n / 16) 0 (λ e. omega (arith, e, h)) in
    ap (λ b. cond b (digit_glyph false (n % 16) ∷ acc) (digits_onto k 16 false (n / 16) (digit_glyph false (n % 16) ∷ acc))) more

-- the last one that is parted off is the first of the text
pub digit_first : (k n : ℕ) (acc : List ℕ) → n < 16 → digits_onto (suc k) 16 false n acc ≡ digit_glyph false n ∷ acc
digit_first k n acc h =
    let none : n / 16 ≡ 0 = omega (arith, h) in
    let same : n % 16 ≡ n = omega (arith, h, none) in
    ap (λ m. cond (eqb m 0) (digit_glyph false (n % 16) ∷ acc) (digits_onto k 16 false (n / 16) (digit_glyph false (n % 16) ∷ acc))) none ∙ ap (λ m. digit_glyph false m ∷ acc) same

pub fewer : (n k : ℕ) → n < 16 ^ (k + 1) → n / 16 < 16 ^ k
fewer n k h =
    let step : 16 ^ (k + 1) ≡ 16 ^ k * 16 = ap (λ (m : ℕ). 16 ^ m) (add-one k) ∙ pow-suc 16 k in
    (div-lt_iff_lt-mul {k = 16} {x = n} {y = 16 ^ k} (omega arith)).1 (subst (λ (m : ℕ). n < m) step h)

-- a turn of the loop
pub turn : (ds es : List ℕ) (i n : ℕ) (text : List ℕ) → 16 ≤ n → 0 < i → i < length ds → es ≡ set ds i (digit_glyph false (n % 16)) →
    digits_onto (i + 49) 16 false n (drop (i + 1) ds) ≡ text → digits_onto (i - 1 + 49) 16 false (n / 16) (drop (i - 1 + 1) es) ≡ text
turn ds es i n text h some within e before =
    let count : i + 49 ≡ suc (i - 1 + 49) = omega (arith, some) in
    let place : i - 1 + 1 ≡ i = omega (arith, some) in
    let digit = digit_glyph false (n % 16) in
    let behind : drop (i - 1 + 1) es ≡ digit ∷ drop (i + 1) ds = ap (λ (m : ℕ). drop m es) place ∙ ap (λ (l : List ℕ). drop i l) e ∙ drop-set ds i digit within in
    let rest = drop (i + 1) ds in
    ap (λ (l : List ℕ). digits_onto (i - 1 + 49) 16 false (n / 16) l) behind ∙ sym (digit_more (i - 1 + 49) n rest h) ∙ ap (λ (m : ℕ). digits_onto m 16 false n rest) (sym count) ∙ before

-- the end of the loop
pub written : (ds : List ℕ) (i n x : ℕ) (text : List ℕ) → n < 16 → i < 16 → length ds ≡ 16 → x ≡ digit_glyph false n →
    digits_onto (i + 49) 16 false n (drop (i + 1) ds) ≡ text → take (16 - i) (drop i (set ds i x)) ≡ text
written ds i n x text h few size e before =
    let count : i + 49 ≡ suc (i + 48) = omega arith in
    let rest = drop (i + 1) ds in
    let within : i < length ds = omega (arith, few, size) in
    let all : length (drop i (set ds i x)) ≤ 16 - i = omega (arith, few, size, length-drop i (set ds i x), length-set ds i x) in
    take_all (16 - i) (drop i (set ds i x)) all ∙ drop-set ds i x within ∙ ap (λ (d : ℕ). d ∷ rest) e ∙ sym (digit_first (i + 48) n rest h)
    ∙ ap (λ (m : ℕ). digits_onto m 16 false n rest) (sym count) ∙ before

-- so it is with more behind the digits
pub written_front : (ds : List ℕ) (i n x m : ℕ) (text : List ℕ) → n < 16 → i < 16 → 16 ≤ length ds → 16 ≤ m → x ≡ digit_glyph false n →
    digits_onto (i + 49) 16 false n (drop (i + 1) (take 16 ds)) ≡ text → take (16 - i) (take m (drop i (set ds i x))) ≡ text
written_front ds i n x m text h few size all e before =
    let digits = drop i (set ds i x) in
    let count : 16 ≡ i + (16 - i) = omega (arith, few) in
    let prefix : drop i (set (take 16 ds) i x) ≡ take (16 - i) digits =
    ap (λ (l : List ℕ). drop i l) (sym (take-set-lt 16 ds i x few)) ∙ ap (λ (j : ℕ). drop i (take j (set ds i x))) count ∙ drop-take i (16 - i) (set ds i x) in
    take-take (16 - i) m digits (omega (arith, all)) ∙ sym (take-take (16 - i) (16 - i) digits (omega arith)) ∙ ap (λ (l : List ℕ). take (16 - i) l) (sym prefix)
    ∙ written (take 16 ds) i n x text h few (length-take-le 16 ds size) e before

-- more than one digit is left
pub some_place : (n i : ℕ) → 16 ≤ n → n < 16 ^ (i + 1) → 0 < i
some_place n zero h k = absurd (omega (arith, h, k))
some_place n (suc i) h k = omega arith
