-- What a shelf tells: its files, a finite map from names to bytes. A shelf that tells nothing is None.
use Rattle.std.specs.{Prelude.{◌≡◌, ℕ, List, [], ◌++◌, Option, Some, None, unwrap_or, ⊤}, Ordering.{nat_cmp}, Cmp.Lexicographic.{slice_cmp}, FinMap.{FinMap, get, insert, remove}}

-- files by their names
abbrev pub Files : Type 0
Files = FinMap (slice_cmp nat_cmp) (List ℕ)

-- the files, with these bytes at the name, or without the name
abbrev pub with_or_without : Files → List ℕ → Option (List ℕ) → Files
with_or_without files name None = remove files name
with_or_without files name (Some bytes) = insert files name bytes

-- The shelf tells that the name's file holds these bytes.
abbrev pub Holds : Option Files → List ℕ → List ℕ → Type 0
Holds None name bytes = ⊥
Holds (Some files) name bytes = get files name ≡ Some bytes

-- The shelf tells that the name isn't there.
abbrev pub IsMissing : Option Files → List ℕ → Type 0
IsMissing None name = ⊥
IsMissing (Some files) name = get files name ≡ None

-- the same files, but that the name's holds these bytes
abbrev pub with_file : Option Files → List ℕ → List ℕ → Option Files
with_file None name bytes = None
with_file (Some files) name bytes = Some (insert files name bytes)

-- the same files, but that the name's holds more bytes, behind those that it held
abbrev pub with_more : Option Files → List ℕ → List ℕ → Option Files
with_more None name more = None
with_more (Some files) name more = Some (insert files name (unwrap_or (get files name) [] ++ more))

-- Files of other names hold what they held, and are missing where they were.
abbrev pub KeepsOthers : Option Files → Option Files → List ℕ → Type 0
KeepsOthers None None name = ⊤
KeepsOthers None (Some new) name = ⊥
KeepsOthers (Some old) None name = ⊥
KeepsOthers (Some old) (Some new) name = (other : List ℕ) → (other ≡ name → ⊥) → get new other ≡ get old other
