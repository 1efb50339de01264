-- The stated forms of the words (this project's profile).
use Rattle.std.specs.{Prelude.{ℕ, List, [], ◌∷◌, Option, Some, None, if◌then◌else◌, codes}, Str.{bytes_eq}}
use Rattle.command_words.specs.{Forms.{is_form}, Numerals.{seed_of, tasks_of}}

pub data Command : Type 0 where
  Build : (oil code image : List ℕ) → Command
  Replay : (image mode events : List ℕ) → Command
  Trace : (oil code mode events : List ℕ) → Command
  Show : (oil code : List ℕ) → Command
  Report : (oil code : List ℕ) → Command
  Info : (image : List ℕ) → Command
  Gen : (seed tasks : ℕ) → Command
  Upgrade : (image upgraded : List ℕ) → Command
  Certify : (oil code image table : List ℕ) → Command
  Check : (image table : List ℕ) → Command
  Record : (image mode events : List ℕ) → Command
  Watch : (oil code points : List ℕ) → Command

-- `gen` of two numbers
abbrev pub gen_of : Option ℕ → Option ℕ → Option Command
gen_of None tasks = None
gen_of (Some seed) None = None
gen_of (Some seed) (Some tasks) = Some (Gen seed tasks)

-- `certify`, whose image and table are not one file
abbrev pub certify_of : (oil code image table : List ℕ) → Option Command
certify_of oil code image table = if bytes_eq image table then None else Some (Certify oil code image table)

-- the command of another verb that takes two words
abbrev pub command_of_others : (verb a b : List ℕ) → Option Command
command_of_others verb a b =
    if bytes_eq verb (codes "upgrade") then Some (Upgrade a b) else (if bytes_eq verb (codes "check") then Some (Check a b) else gen_of (seed_of a) (tasks_of b))

-- the command of a verb, which takes these words
abbrev pub command_of_words : (verb : List ℕ) → List (List ℕ) → Option Command
command_of_words verb (a ∷ []) = Some (Info a)
command_of_words verb (a ∷ b ∷ []) =
    if bytes_eq verb (codes "show") then Some (Show a b)
    else (if bytes_eq verb (codes "report") then Some (Report a b) else command_of_others verb a b)
command_of_words verb (a ∷ b ∷ c ∷ []) =
    if bytes_eq verb (codes "build") then Some (Build a b c)
    else (if bytes_eq verb (codes "replay") then Some (Replay a b c) else (if bytes_eq verb (codes "record") then Some (Record a b c) else Some (Watch a b c)))
command_of_words verb (a ∷ b ∷ c ∷ d ∷ []) = if bytes_eq verb (codes "trace") then Some (Trace a b c d) else certify_of a b c d
command_of_words verb other = None

-- the first word is the program's name, and isn't looked at
abbrev pub command_of : List (List ℕ) → Option Command
command_of (program ∷ verb ∷ words) = if is_form (program ∷ verb ∷ words) then command_of_words verb words else None
command_of other = None
