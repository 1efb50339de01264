-- Without a verb there is no command.
use Rattle.std.proofs.Common.{◌≡◌, ℕ, ◌<◌, List, [], ◌∷◌, length, map, refl, None, arith}
use Rattle.commands.specs.Words.{command_of}

pub of_few : {X : Type 0} (bytes : X → List ℕ) (words : List X) → length words < 2 → None ≡ command_of (map bytes words)
of_few bytes [] h = refl
of_few bytes (program ∷ []) h = refl
of_few bytes (program ∷ verb ∷ rest) h = absurd (omega arith)
