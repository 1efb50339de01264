-- Sets of names.
use Rattle.std.specs.{Prelude.{◌≡◌, ℕ, Bool, List}, Borrow.{Bor}, List.{list_any}, Str.{bytes_eq}}
use Rattle.oil_tree.specs.declared.tree.Object.{Object}
use Rattle.oil_model.specs.{declared.name_set.NameSet.{NameSet}, Objects.{declares}, Rules.{is_internal_name}}

abbrev pub is_key : List ℕ → Bor (List ℕ) → Bool
is_key n key = bytes_eq n key.now

-- whether the set has the name
abbrev pub has_name : NameSet → List ℕ → Bool
has_name set n = list_any (is_key n) set.names.keys

-- the set has just the names of the objects of a kind
abbrev pub KnowsNames : NameSet → List ℕ → List Object → Type 0
KnowsNames set kind objects = (n : List ℕ) → has_name set n ≡ declares kind n objects

-- the set has just the names of the INTERNAL resources
abbrev pub KnowsInternals : NameSet → List Object → Type 0
KnowsInternals set objects = (n : List ℕ) → has_name set n ≡ is_internal_name objects n
