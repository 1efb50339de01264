-- The value of digits grows with each digit.
use Rattle.std.proofs.{Common.{◌≡◌, ℕ, ◌+◌, ◌*◌, ◌<◌, ◌≤◌, List, [], ◌∷◌, length, get_or, drop, arith}, lemmas.List.{at_drop_more}}
use Rattle.oil_lexer.specs.Numbers.{digit_value, value_from, value_of}

times_base : (base n d : ℕ) → 1 ≤ base → n ≤ n * base + d
times_base base n d one = grind arith

pub value_from-le : (base n : ℕ) (ds : List ℕ) → 1 ≤ base → n ≤ value_from base n ds
value_from-le base n [] one = omega arith
value_from-le base n (d ∷ ds) one =
    let first : n ≤ n * base + digit_value d = times_base base n (digit_value d) one in
    let rest : n * base + digit_value d ≤ value_from base (n * base + digit_value d) ds = value_from-le base (n * base + digit_value d) ds one in
    omega arith

-- one digit on
pub value_from-drop : (base n i : ℕ) (ds : List ℕ) → i < length ds → value_from base n (drop i ds) ≡ value_from base (n * base + digit_value (get_or ds i 0)) (drop (i + 1) ds)
value_from-drop base n i ds h = at_drop_more (value_from base n) ds i 0 h

-- what the next digit makes of the number is no more than the whole value
pub next_value-le : (base n i : ℕ) (ds : List ℕ) → 1 ≤ base → i < length ds → value_from base n (drop i ds) ≡ value_of base ds → n * base + digit_value (get_or ds i 0) ≤ value_of base ds
next_value-le base n i ds one h e =
    let step = value_from-drop base n i ds h in
    let low = value_from-le base (n * base + digit_value (get_or ds i 0)) (drop (i + 1) ds) one in
    omega (arith, step, low, e)
