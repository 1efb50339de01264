-- The draws of the generator: a sequence of states that a seed begins, and the number that a state gives.
use Rattle.std.specs.Prelude.{ℕ, ◌+◌, ◌*◌, ◌/◌, ◌%◌, ◌^◌}

abbrev pub first_state : ℕ → ℕ
first_state seed = seed % 2 ^ 31

-- the state behind a draw
abbrev pub next_state : ℕ → ℕ
next_state x = (x * 1103515245 + 12345) % 2 ^ 31

-- the number below `choices` that a state gives
abbrev pub number_of : ℕ → ℕ → ℕ
number_of choices x = (x / 65536) % choices
