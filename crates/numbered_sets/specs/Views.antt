-- What numbered entries mean: the entries of their values.
use Rattle.std.specs.{Prelude.{◌≡◌, ℕ, suc, ◌<◌, Bool, List, [], ◌∷◌, ◌++◌, length, if◌then◌else◌, IsTrue}, BTreeSet.{insert_key}}
use Rattle.abstract_state.specs.{declared.{value.PartValue.{PartValue}, table.{ValueSet.{ValueSet}, PlainEntry.{PlainEntry}}}, ValueOrder.{part_order}}
use Rattle.numbered_sets.specs.{declared.numbered_entry.NumberedEntry.{NumberedEntry}, Numbers.{Numbers, has_number}, NumberedEntries.{numbers_at, number_domains}}
use Rattle.numbered_sets.specs.Pools.{Values, values_at, pool_domains}

-- the values whose number passes, in the order of their numbers
abbrev pub values_with : List PartValue → (ℕ → Bool) → List PartValue
values_with [] has = []
values_with (v ∷ vs) has = (if has 0 then v ∷ [] else []) ++ values_with vs (λ n. has (suc n))

-- values in ascending order, each once
abbrev pub in_order : List PartValue → List PartValue
in_order [] = []
in_order (v ∷ vs) = insert_key part_order (in_order vs) v

-- The set of the values that have these numbers.
abbrev pub plain_set : List PartValue → Numbers → ValueSet
plain_set values x = record { domain = x.domain; members = in_order (values_with values (has_number x)) }

-- the sets of components from one on
abbrev pub plain_sets : List Values → ℕ → List Numbers → List ValueSet
plain_sets pool c [] = []
plain_sets pool c (x ∷ xs) = plain_set (values_at pool c) x ∷ plain_sets pool (suc c) xs

-- What a numbered entry means: for each component the set of the values that have its numbers.
abbrev pub plain_entry : List Values → NumberedEntry → PlainEntry
plain_entry pool entry = record { sets = plain_sets pool 0 entry.sets }

-- The entry's numbers are those of values of the pool.
pub record AreNumbersOf (pool : List Values) (entry : NumberedEntry) : Type 0 where
  pub domains : number_domains entry ≡ pool_domains pool
  pub known : (c n : ℕ) → IsTrue (has_number (numbers_at entry c) n) → n < length (values_at pool c)

-- The numbers of a component are those that the values of a set have in the pool.
pub record IsNumberedSet (pool : List Values) (c : ℕ) (set : ValueSet) (x : Numbers) : Type 0 where
  pub domain : x.domain ≡ set.domain
  pub known : (n : ℕ) → IsTrue (has_number x n) → n < length (values_at pool c)
  pub plain : plain_set (values_at pool c) x ≡ set
