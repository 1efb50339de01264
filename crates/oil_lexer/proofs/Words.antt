-- A word by its bytes: a letter first, and then bytes of a name.
use Rattle.std.proofs.Common.{◌≡◌, ℕ, ◌<◌, ◌≤◌, Bool, true, zero, suc, List, [], ◌∷◌, length, take, get_or, arith, refl}
use Rattle.std.specs.List.{list_all}
use Rattle.osek_values.specs.Names.{is_letter, is_name_byte, is_word}
use Rattle.oil_lexer.specs.{declared.classes.ByteSet.TheVariants.{NameBytes}, Classes.{AllIn}}

all_first : (p : ℕ → Bool) (bytes : List ℕ) (n : ℕ) → n ≤ length bytes → ((k : ℕ) → k < n → p (get_or bytes k 0) ≡ true) → list_all p (take n bytes) ≡ true
all_first p bytes zero le each = refl
all_first p [] (suc n) le each = absurd (omega arith)
all_first p (b ∷ bytes) (suc n) le each =
    let here : p b ≡ true = each 0 (omega arith) in
    let rest : list_all p (take n bytes) ≡ true = all_first p bytes n (omega arith) (λ k h. each (suc k) (omega (arith, h))) in
    rw here rest

each_first : (p : ℕ → Bool) (bytes : List ℕ) (n k : ℕ) → list_all p (take n bytes) ≡ true → k < n → n ≤ length bytes → p (get_or bytes k 0) ≡ true
each_first p bytes zero k all lt le = absurd (omega arith)
each_first p [] (suc n) k all lt le = absurd (omega arith)
each_first p (b ∷ bytes) (suc n) zero all lt le = grind arith
each_first p (b ∷ bytes) (suc n) (suc k) all lt le =
    let rest : list_all p (take n bytes) ≡ true = grind arith in
    each_first p bytes n k rest (omega arith) (omega arith)

-- the first n bytes are a word
pub is_word-take : (bytes : List ℕ) (n : ℕ) → is_letter (get_or bytes 0 0) ≡ true → 1 ≤ n → n ≤ length bytes → AllIn NameBytes bytes 1 n → is_word (take n bytes) ≡ true
is_word-take bytes zero letter one le all = absurd (omega arith)
is_word-take [] (suc n) letter one le all = absurd (omega arith)
is_word-take (b ∷ bytes) (suc n) letter one le all =
    let rest : list_all is_name_byte (take n bytes) ≡ true = all_first is_name_byte bytes n (omega arith) (λ k h. all (suc k) (omega arith) (omega (arith, h))) in
    rw letter rest

-- each byte of a word but the first is a byte of a name
pub word_bytes : (bytes : List ℕ) (n : ℕ) → n ≤ length bytes → is_word (take n bytes) ≡ true → AllIn NameBytes bytes 1 n
word_bytes bytes zero le word k low high = absurd (omega arith)
word_bytes [] (suc n) le word k low high = absurd (omega arith)
word_bytes (b ∷ bytes) (suc n) le word zero low high = absurd (omega arith)
word_bytes (b ∷ bytes) (suc n) le word (suc k) low high =
    let rest : list_all is_name_byte (take n bytes) ≡ true = grind arith in
    each_first is_name_byte bytes n k rest (omega arith) (omega arith)
