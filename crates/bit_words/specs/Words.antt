-- The bits of a list of words.
use Rattle.std.specs.Prelude.{ℕ, ◌+◌, ◌*◌, ◌<◌, ◌^◌, List, [], ◌∷◌, All}

-- each word is one of 64 bits
abbrev pub AreWords : List ℕ → Type 0
AreWords = All (λ w. w < 2 ^ 64)

-- their bits, those of the first word lowest
unfoldable pub bits_of_words : List ℕ → ℕ
bits_of_words [] = 0
bits_of_words (w ∷ ws) = w + 2 ^ 64 * bits_of_words ws
