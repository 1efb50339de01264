-- The values that components were seen with, each with a number.
use Rattle.std.specs.{Prelude.{◌≡◌, ℕ, ◌<◌, List, [], ◌∷◌, ◌++◌, length, map, slice_index_or, if◌then◌else◌, All}, List.{list_any, IsDistinct}}
use Rattle.osek_values.specs.declared.numbers.BlockNo.{BlockNo}
use Rattle.abstract_state.specs.declared.value.{Domain.{Domain}, PartValue.{PartValue}}
use Rattle.abstract_state.specs.declared.value.Domain.TheVariants as domain
use Rattle.abstract_state.specs.{ValueOrder.{same_part}, Domains.{IsWithin}}
use Rattle.flow_model.specs.declared.change.Update.TheVariants as update
use Rattle.flow_model.specs.Tests.{updated}

-- Values of a domain, in the order in which they were first seen: each has its place as its number.
pub record Values : Type 0 where
  pub domain : Domain
  pub values : List PartValue

abbrev pub no_values : Domain → Values
no_values d = record { domain = d; values = [] }

-- a value last, where it isn't among them
abbrev pub with_value : List PartValue → PartValue → List PartValue
with_value vs v = if list_any (same_part v) vs then vs else vs ++ v ∷ []

abbrev pub value_seen : Values → PartValue → Values
value_seen x v = record { domain = x.domain; values = with_value x.values v }

-- A pool has the values of each component.
abbrev pub seen_at : List Values → ℕ → Values
seen_at pool c = slice_index_or pool c (no_values domain.Alarm)

abbrev pub values_at : List Values → ℕ → List PartValue
values_at pool c = (seen_at pool c).values

abbrev pub domain_at : List Values → ℕ → Domain
domain_at pool c = (seen_at pool c).domain

abbrev pub pool_domains : List Values → List Domain
pool_domains pool = map (λ (x : Values). x.domain) pool

-- none stands twice, and each is one of the domain's
pub record AreNumbered (d : Domain) (vs : List PartValue) : Type 0 where
  pub distinct : IsDistinct same_part vs
  pub within : All (IsWithin d) vs

abbrev pub AreValues : Values → Type 0
AreValues x = AreNumbered x.domain x.values

-- the value with this number
pub record IsNumberOf (vs : List PartValue) (v : PartValue) (n : ℕ) : Type 0 where
  pub known : n < length vs
  pub is : (d : PartValue) → slice_index_or vs n d ≡ v

-- the value with the second number is the one with the first at some block, if that is Live; else it is the same
abbrev pub IsBeside : List PartValue → ℕ → ℕ → Type 0
IsBeside vs n m = (v : PartValue) → IsNumberOf vs v n → (b : BlockNo) × IsNumberOf vs (updated (update.Block b) v) m

-- the second has the values of the first under their numbers, and maybe more
pub record IsExtended (vs ws : List PartValue) : Type 0 where
  pub more : List PartValue
  pub is : ws ≡ vs ++ more

-- A pool that grew: the numbers of values stay.
pub record IsLonger (pool after : List Values) : Type 0 where
  pub domains : pool_domains after ≡ pool_domains pool
  pub values : (c : ℕ) → IsExtended (values_at pool c) (values_at after c)
