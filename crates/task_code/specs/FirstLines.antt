-- The first of some lines.
use Rattle.std.specs.Prelude.{ℕ, List, [], ◌∷◌, Option, Some, None}

abbrev pub first_line : List ℕ → Option ℕ
first_line [] = None
first_line (line ∷ others) = Some line

-- a line, or where there is none a later one
abbrev pub or_later : Option ℕ → Option ℕ → Option ℕ
or_later None later = later
or_later (Some line) later = Some line
