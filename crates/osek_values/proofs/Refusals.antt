-- What holds of a fault goes over to what follows from it.
use Rattle.osek_values.specs.{declared.refused.Refused.{Refused, TheVariants.{Fault, Memory}}, Answers.{Refuses}}

pub refuses_map : {F : Type 0} (e : Refused F) (P Q : F → Type 0) → ((f : F) → P f → Q f) → Refuses e P → Refuses e Q
refuses_map (Fault f) P Q onward h = onward f h
refuses_map Memory P Q onward h = tt
