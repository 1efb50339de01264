-- Pieces one behind the other, each with its number.
use Rattle.std.proofs.Common.{ℕ, ◌+◌, List, [], ◌∷◌}
use Rattle.std.specs.Prelude.{⊤}

-- pieces in front of a rest, one behind the other, from number i on
abbrev pub each_of : {L A : Type 0} → (ℕ → A → L → L) → ℕ → List A → L → L
each_of before i [] rest = rest
each_of before i (a ∷ more) rest = before i a (each_of before (i + 1) more rest)

-- of each piece, by its number
abbrev pub AllFrom : {A : Type 0} → (ℕ → A → Type 0) → ℕ → List A → Type 0
AllFrom P i [] = ⊤
AllFrom P i (a ∷ more) = P i a × AllFrom P (i + 1) more
