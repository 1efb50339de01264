-- The names of generated tasks, and their numbers as they are written.
use Rattle.std.proofs.Common.{◌≡◌, ℕ, ◌+◌, ◌-◌, ◌*◌, ◌%◌, ◌<◌, ◌≤◌, ◌^◌, Bool, true, cond, List, [], ◌∷◌, ◌++◌, length, decimal, refl, ap, ◌∙◌, arith}
use Rattle.std.specs.{Prelude.{◌&&◌, nat_le, nat_lt}, List.{list_all}}
use Rattle.std.proofs.lemmas.{Bool.{and_from, le-leb, lt-ltb}, Fmt.{decimal_by_steps, decimal_nonempty, length-decimal-le, decimal_injective}, List.Folds.{list_all-append}}
use Rattle.std.proofs.lemmas.Nat.{mod_below}
use Rattle.osek_values.specs.Names.{is_digit, is_word, is_name}
use Rattle.oil_lexer.specs.Numbers.{digit_value, value_from, value_of}
use Rattle.generated_texts.proofs.Lexemes.{is_numeral, digits_all}

abbrev pub task_name : ℕ → List ℕ
task_name i = 84 ∷ decimal i

digit_is : (m : ℕ) → m < 10 → is_digit (48 + m) ≡ true
digit_is m h = and_from (nat_le 48 (48 + m)) (nat_le (48 + m) 57) (le-leb 48 (48 + m) (omega arith)) (le-leb (48 + m) 57 (omega (arith, h)))

digit_means : (m : ℕ) → m < 10 → digit_value (48 + m) ≡ m
digit_means m h =
    let low : nat_le (48 + m) 57 ≡ true = le-leb (48 + m) 57 (omega (arith, h)) in
    ap (λ (b : Bool). cond b (48 + m - 48) (cond (nat_le (48 + m) 70) (48 + m - 55) (48 + m - 87))) low ∙ omega arith

pub decimal_digits : (n : ℕ) → n < 2 ^ 64 → list_all is_digit (decimal n) ≡ true
decimal_digits n h =
    decimal_by_steps (λ _ ds. list_all is_digit ds ≡ true)
    (λ d lt. and_from (is_digit (48 + d)) true (digit_is d lt) refl)
    (λ m ds _ e. list_all-append is_digit ds ((48 + m % 10) ∷ []) ∙ and_from (list_all is_digit ds) (is_digit (48 + m % 10) && true) e (and_from (is_digit (48 + m % 10)) true (digit_is (m % 10) (mod_below m 10 (omega arith))) refl))
    n h

value_from-append : (base n : ℕ) (xs ys : List ℕ) → value_from base n (xs ++ ys) ≡ value_from base (value_from base n xs) ys
value_from-append base n [] ys = refl
value_from-append base n (x ∷ xs) ys = value_from-append base (n * base + digit_value x) xs ys

pub decimal_value : (n : ℕ) → n < 2 ^ 64 → value_of 10 (decimal n) ≡ n
decimal_value n h =
    decimal_by_steps (λ n ds. value_of 10 ds ≡ n)
    (λ d lt. ap (λ (v : ℕ). 0 * 10 + v) (digit_means d lt) ∙ omega arith)
    (λ m ds _ e. value_from-append 10 0 ds ((48 + m % 10) ∷ []) ∙ (λ i. e i * 10 + digit_means (m % 10) (mod_below m 10 (omega arith)) i) ∙ omega arith)
    n h

of_digits : (ds : List ℕ) → 0 < length ds → list_all is_digit ds ≡ true → value_of 10 ds < 2 ^ 64 → is_numeral ds ≡ true
of_digits [] some all small = absurd (omega (arith, some))
of_digits (d ∷ ds) some all small = and_from (list_all is_digit (d ∷ ds)) (nat_lt (value_of 10 (d ∷ ds)) (2 ^ 64)) all (lt-ltb (value_of 10 (d ∷ ds)) (2 ^ 64) small)

-- a number as it is written is one
pub decimal_numeral : (n : ℕ) → n < 2 ^ 64 → is_numeral (decimal n) ≡ true
decimal_numeral n h = of_digits (decimal n) (decimal_nonempty n h) (decimal_digits n h) (omega (arith, decimal_value n h, h))

-- a task's name is one
pub task_name_right : (i : ℕ) → i < 2 ^ 64 → is_name (task_name i) ≡ true
task_name_right i h =
    let short : length (decimal i) ≤ 20 = length-decimal-le 20 i (omega arith) (omega (arith, h)) h in
    and_from (is_word (task_name i)) (nat_le (length (task_name i)) 64) (digits_all (decimal i) (decimal_digits i h)) (le-leb (length (task_name i)) 64 (omega (arith, short)))

pub task_name_injective : (i j : ℕ) → i < 2 ^ 64 → j < 2 ^ 64 → task_name i ≡ task_name j → i ≡ j
task_name_injective i j h k e = let digits : decimal i ≡ decimal j = cc in decimal_injective i j h k digits
