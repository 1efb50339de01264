-- Counts of calls and of faults, which never fall and end at 2^64-1.
use Rattle.std.specs.{Prelude.{◌+◌, ◌-◌, ◌^◌, ◌≡◌, ◌≤◌, ◌==◌, ℕ, Bool, List, min}, List.{list_any}}

-- one more, where the count can rise
abbrev pub one_more : ℕ → ℕ
one_more count = min (count + 1) (2 ^ 64 - 1)

-- The count rose, or stands at its end.
abbrev pub Rose : ℕ → ℕ → Type 0
Rose before now = one_more before ≤ now

-- counts of failed reads, by the name of the file and the place in it
abbrev pub ReadFaults : Type 0
ReadFaults = List ℕ → ℕ → ℕ

-- each count is as it was
abbrev pub Same : (before now : ReadFaults) → Type 0
Same before now = (name : List ℕ) (at : ℕ) → now name at ≡ before name at

-- no count fell
abbrev pub NeverFall : (before now : ReadFaults) → Type 0
NeverFall before now = (name : List ℕ) (at : ℕ) → before name at ≤ now name at

-- the count of some place rose
abbrev pub RoseSomewhere : (before now : ℕ → ℕ) → Type 0
RoseSomewhere before now = (at : ℕ) × Rose (before at) (now at)

-- After so many calls the next one is listed, by its number from 1.
abbrev pub is_listed : List ℕ → ℕ → Bool
is_listed fails calls = list_any (λ n. n == one_more calls) fails
