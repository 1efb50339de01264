-- A line of tasks: where one stands first, and the line without that place.
use Rattle.std.specs.Prelude.{ℕ, ◌+◌, ◌==◌, List, [], ◌∷◌, if◌then◌else◌}
use Rattle.osek_values.specs.declared.numbers.TaskNo.{TaskNo}

-- a task's first place; tasks that have none come after all that have one, by number
abbrev pub place_in_line : List TaskNo → ℕ → ℕ
place_in_line [] t = t
place_in_line (n ∷ line) t = if n.0 == t then 0 else 1 + place_in_line line t

-- the line without a task's first place
abbrev pub without_first : List TaskNo → ℕ → List TaskNo
without_first [] t = []
without_first (n ∷ line) t = if n.0 == t then line else n ∷ without_first line t
