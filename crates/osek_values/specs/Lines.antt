-- Lines of a text, and the least of them.
use Rattle.std.specs.Prelude.{◌≡◌, ◌⊎◌, ℕ, min, List, [], ◌∷◌, Option, Some, None}

-- one of the lines
abbrev pub IsOneOf : ℕ → List ℕ → Type 0
IsOneOf l [] = ⊥
IsOneOf l (x ∷ lines) = (x ≡ l) ⊎ IsOneOf l lines

-- the lesser of two lines, where both are there
abbrev pub sooner : Option ℕ → Option ℕ → Option ℕ
sooner None b = b
sooner (Some a) None = Some a
sooner (Some a) (Some b) = Some (min a b)

-- the least of the lines, if there is one
abbrev pub least : List ℕ → Option ℕ
least [] = None
least (l ∷ lines) = sooner (Some l) (least lines)
