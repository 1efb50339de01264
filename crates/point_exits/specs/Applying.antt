-- What a rule makes of the values of numbered sets.
use Rattle.std.specs.Prelude.{◌≡◌, ℕ, ◌<◌, List, length, IsTrue, None}
use Rattle.osek_standard.specs.declared.point.Point.TheVariants as point
use Rattle.abstract_state.specs.{declared.{value.{Domain.{Domain}, PartValue.{PartValue}}, table.{ValueSet.{ValueSet}, PlainEntry.{PlainEntry}}}, Domains.{IsWithin}}
use Rattle.abstract_state.specs.Tables.{set_at, is_member}
use Rattle.flow_model.specs.{declared.{change.Change.{Change}, rule.Rule.{Rule}, test.Condition.{Condition}}, Tests.{PassesAt, value_after}}
use Rattle.numbered_sets.specs.{declared.numbered_entry.NumberedEntry.{NumberedEntry}, Numbers.{Numbers, numbers, has_number, with_number}, NumberedEntries.{AreFilled}}
use Rattle.numbered_sets.specs.{Pools.{Values, values_at, domain_at, IsNumberOf, IsLonger}, Views.{plain_set, plain_entry, AreNumbersOf}}
use Rattle.point_exits.specs.Passing.{ArePassed, AreTaken}

-- These conditions and changes alone.
abbrev pub bare_rule : List Condition → List Change → Rule
bare_rule conditions changes = record { conditions = conditions; changes = changes; target = point.Halted; decision = None; status = None }

-- What the rule makes of the set's values that pass lies in their domain.
pub record KeepsDomain (rule : Rule) (c : ℕ) (set : ValueSet) : Type 0 where
  pub each : (v : PartValue) → IsTrue (is_member set v) → PassesAt rule.conditions c v → IsWithin set.domain (value_after rule.changes c v)

-- So it is for each set, where each has a value that passes.
pub record KeepsDomains (rule : Rule) (entry : PlainEntry) : Type 0 where
  pub sets : AreTaken rule entry → (c : ℕ) → c < length entry.sets → KeepsDomain rule c (set_at entry c)

-- A rule can be applied to numbers: they are those of values of the pool, each component has one, and what the rule makes of
-- these values lies in their domains.
pub record MayApply (rule : Rule) (pool : List Values) (entry : NumberedEntry) : Type 0 where
  pub numbers : AreNumbersOf pool entry
  pub filled : AreFilled entry
  pub kept : KeepsDomains rule (plain_entry pool entry)

-- numbers of what the rule makes of the values of a list that pass, in a pool that grew
pub record IsPassedSoFar (rule : Rule) (before : List Values) (c : ℕ) (d : Domain) (old : List PartValue) (pool : List Values) (x : Numbers) : Type 0 where
  pub longer : IsLonger before pool
  pub domain : x.domain ≡ d
  pub known : (n : ℕ) → IsTrue (has_number x n) → n < length (values_at pool c)
  pub passed : ArePassed rule c d old (plain_set (values_at pool c) x)

-- the numbers of what the rule makes of the values of numbers that pass
pub record IsPassedSet (rule : Rule) (before : List Values) (c : ℕ) (old : Numbers) (pool : List Values) (new : Numbers) : Type 0 where
  pub domain : new.domain ≡ old.domain
  pub known : (n : ℕ) → IsTrue (has_number new n) → n < length (values_at pool c)
  pub passed : ArePassed rule c old.domain (plain_set (values_at before c) old).members (plain_set (values_at pool c) new)

-- the number of the value alone
pub record IsAloneIn (pool : List Values) (c : ℕ) (v : PartValue) (set : Numbers) : Type 0 where
  pub number : ℕ
  pub is : IsNumberOf (values_at pool c) v number
  pub only : set ≡ with_number (numbers (domain_at pool c) 0) number
