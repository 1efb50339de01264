-- The value of digits (ISO 17356-6, numbers).
use Rattle.std.specs.Prelude.{ℕ, ◌+◌, ◌-◌, ◌*◌, nat_le, if◌then◌else◌, List, [], ◌∷◌}

-- the value of a decimal or hexadecimal digit: 0 to 9, A to F, a to f
abbrev pub digit_value : ℕ → ℕ
digit_value d = if nat_le d 57 then d - 48 else (if nat_le d 70 then d - 55 else d - 87)

-- the value of digits to a base, behind digits of a value already
abbrev pub value_from : ℕ → ℕ → List ℕ → ℕ
value_from base n [] = n
value_from base n (d ∷ ds) = value_from base (n * base + digit_value d) ds

-- the value of digits to a base
abbrev pub value_of : ℕ → List ℕ → ℕ
value_of base ds = value_from base 0 ds
