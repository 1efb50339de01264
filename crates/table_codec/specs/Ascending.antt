-- A component's values in their order, each with its number.
use Rattle.std.specs.Prelude.{◌≡◌, ℕ, ◌+◌, List, [], ◌∷◌, map, filter}
use Rattle.abstract_state.specs.declared.value.PartValue.{PartValue}
use Rattle.table_codec.specs.declared.ascending.NumberedValue.{NumberedValue}
use Rattle.numbered_sets.specs.{Numbers.{Numbers, has_number}, Views.{plain_set}}

-- the values whose numbers are in a set
abbrev pub values_in : Numbers → List NumberedValue → List PartValue
values_in x all = map (λ (v : NumberedValue). v.value) (filter (λ (v : NumberedValue). has_number x v.number) all)

-- Whichever set of numbers is asked for, its values come in their order.
abbrev pub AreInOrder : List PartValue → List NumberedValue → Type 0
AreInOrder values all = (x : Numbers) → (plain_set values x).members ≡ values_in x all

abbrev pub numbered_value : ℕ → PartValue → NumberedValue
numbered_value n v = record { value = v; number = n }

-- values with their numbers, from one on
abbrev pub numbered_from : ℕ → List PartValue → List NumberedValue
numbered_from n [] = []
numbered_from n (v ∷ vs) = numbered_value n v ∷ numbered_from (n + 1) vs
