-- The numbers of what becomes of values.
use Rattle.std.specs.Prelude.{◌≡◌, ℕ, ◌<◌, List, IsTrue}
use Rattle.abstract_state.specs.declared.value.PartValue.{PartValue}
use Rattle.numbered_sets.specs.{Numbers.{Numbers, has_number}, Pools.{IsNumberOf}}

-- the number of what becomes of the value that has a number of a set, one below k
pub record IsMade (becomes : PartValue → PartValue) (vs : List PartValue) (old : Numbers) (k m : ℕ) : Type 0 where
  pub number : ℕ
  pub value : PartValue
  pub below : number < k
  pub there : IsTrue (has_number old number)
  pub was : IsNumberOf vs value number
  pub is : IsNumberOf vs (becomes value) m

-- the new set has the numbers of what becomes of the values that have numbers of the old one below k, and no others
pub record AreMade (becomes : PartValue → PartValue) (vs : List PartValue) (old : Numbers) (k : ℕ) (new : Numbers) : Type 0 where
  pub domain : new.domain ≡ old.domain
  pub to : (n : ℕ) (v : PartValue) → n < k → IsTrue (has_number old n) → IsNumberOf vs v n → (m : ℕ) × IsNumberOf vs (becomes v) m × IsTrue (has_number new m)
  pub from : (m : ℕ) → IsTrue (has_number new m) → IsMade becomes vs old k m
