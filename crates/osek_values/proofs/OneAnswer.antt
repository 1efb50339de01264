-- Where an input has one answer, a right result is that answer, unless memory ran out.
use Rattle.std.specs.Prelude.{◌≡◌, Result, Ok, Err}
use Rattle.osek_values.specs.{declared.refused.Refused.{Refused, TheVariants.{Fault, Memory}}, Answers.{IsRight, Answers}}

pub answers : {X F : Type 0} {IsAnswer : Result X F → Type 0} → ((a b : Result X F) → IsAnswer a → IsAnswer b → a ≡ b) → (result : Result X (Refused F)) → IsRight IsAnswer result → (expected : Result X F) → IsAnswer expected → Answers result expected
answers one (Ok x) right expected is = one expected (Ok x) is right
answers one (Err (Fault f)) right expected is = one expected (Err f) is right
answers one (Err Memory) right expected is = tt
