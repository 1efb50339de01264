-- Pieces of bytes that a call reads or writes.
use Rattle.std.specs.Prelude.{◌≡◌, ◌≤◌, ◌<◌, ℕ, List, ◌++◌, length, take, drop, Option, Some, None}

-- `n` bytes of a file, from `at` on, came into the start of the slice: none only at or past the file's end.
pub record ReadsPiece (bytes : List ℕ) (at : ℕ) (into : List ℕ) (n : ℕ) : Type 0 where
  pub prefix : take n into ≡ take n (drop at bytes)
  pub within : n ≤ length (drop at bytes)
  pub some : 0 < length into → n ≡ 0 → length bytes ≤ at

-- what a sink tells, with more bytes behind it
abbrev pub grown : Option (List ℕ) → List ℕ → Option (List ℕ)
grown None more = None
grown (Some written) more = Some (written ++ more)
