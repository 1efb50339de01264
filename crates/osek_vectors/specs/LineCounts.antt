-- How many lines a text has of which each ends with LF.
use Rattle.std.specs.Prelude.{ℕ, ◌==◌, List, count_by}

abbrev pub line_count : List ℕ → ℕ
line_count bytes = count_by (λ c. c == 10) bytes
