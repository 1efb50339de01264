-- The places of a shelf in memory: a name, its bytes where the file is there, and its room. Of two places of one name the first counts.
use Rattle.std.specs.{Prelude.{ℕ, List, [], ◌∷◌, Option, Bool}, Str.{bytes_eq}, FinMap.{empty, insert}}
use Rattle.osek_io.specs.{Files.{Files, with_or_without}, MemShelf.{Rooms}}

pub record PlaceState : Type 0 where
  pub name : List ℕ
  pub bytes : Option (List ℕ)
  pub room : ℕ

-- The place has this name.
abbrev pub is_named : List ℕ → PlaceState → Bool
is_named name p = bytes_eq name p.name

-- the files that are there
abbrev pub files_of : List PlaceState → Files
files_of [] = empty
files_of (p ∷ ps) = with_or_without (files_of ps) p.name p.bytes

-- the rooms of the places
abbrev pub rooms_of : List PlaceState → Rooms
rooms_of [] = empty
rooms_of (p ∷ ps) = insert (rooms_of ps) p.name p.room
