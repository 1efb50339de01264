-- What a reader answers: the value that it wants or the first fault of its input, unless memory runs out.
use Rattle.std.specs.Prelude.{◌≡◌, ⊤, Result, Ok, Err}
use Rattle.osek_values.specs.declared.refused.Refused.{Refused, TheVariants.{Fault, Memory}}

-- the fault is such a one, or memory ran out
abbrev pub Refuses : {F : Type 0} → Refused F → (F → Type 0) → Type 0
Refuses (Fault f) P = P f
Refuses Memory P = ⊤

-- the result is an answer, or memory ran out
abbrev pub IsRight : {X F : Type 0} → (Result X F → Type 0) → Result X (Refused F) → Type 0
IsRight IsAnswer (Ok x) = IsAnswer (Ok x)
IsRight IsAnswer (Err e) = Refuses e (λ f. IsAnswer (Err f))

-- the result is the expected one, unless memory ran out
abbrev pub Answers : {X F : Type 0} → Result X (Refused F) → Result X F → Type 0
Answers result expected = IsRight (λ r. expected ≡ r) result
