-- Numbers among the words: decimal digits, with any number of leading zeros (this project's profile).
use Rattle.std.specs.{Prelude.{ℕ, ◌^◌, ◌&&◌, nat_lt, nat_le, List, length, Option, Some, None, if◌then◌else◌}, Str.{all_ascii_digits, Parse.{digits_value}}}
use Rattle.osek_values.specs.declared.limits.TheConstants.{MAX_TASKS}

-- the value of digits, up to 2^64-1
abbrev pub number_of : List ℕ → Option ℕ
number_of word =
    if all_ascii_digits word && nat_lt 0 (length word) && nat_lt (digits_value 10 word) (2 ^ 64) then Some (digits_value 10 word) else None

-- a seed has at most 20 digits
abbrev pub seed_of : List ℕ → Option ℕ
seed_of word = if nat_le (length word) 20 then number_of word else None

abbrev pub within_tasks : Option ℕ → Option ℕ
within_tasks None = None
within_tasks (Some n) = if nat_lt 0 n && nat_le n MAX_TASKS then Some n else None

-- a number of tasks, 1 to 16
abbrev pub tasks_of : List ℕ → Option ℕ
tasks_of word = within_tasks (number_of word)
