-- What changes do to numbered sets, one component after another.
use Rattle.std.specs.{Prelude.{◌≡◌, ℕ, ◌<◌, Bool, false, ◌==◌, List, [], length, take, slice_index_or, IsTrue, if◌then◌else◌}, List.{list_any}}
use Rattle.abstract_state.specs.{declared.value.PartValue.{PartValue}, Domains.{IsWithin}, Tables.{is_member}}
use Rattle.flow_model.specs.{declared.{change.Change.{Change}, rule.Rule.{Rule}}, Tests.{updated, value_after}}
use Rattle.numbered_sets.specs.{declared.numbered_entry.NumberedEntry.{NumberedEntry}, Numbers.{Numbers, has_number}, NumberedEntries.{no_set, numbers_at}}
use Rattle.numbered_sets.specs.{Pools.{Values, values_at, domain_at, IsNumberOf, IsLonger}, Views.{plain_set}}
use Rattle.point_exits.specs.Applying.{IsPassedSet, bare_rule}

abbrev pub names : ℕ → Change → Bool
names c x = x.component.0 == c

-- one of the first k changes names component c
abbrev pub is_named : List Change → ℕ → ℕ → Bool
is_named xs k c = list_any (names c) (take k xs)

-- each change is of a later component than those before
pub record AreInOrder (xs : List Change) : Type 0 where
  pub each : (j k : ℕ) (d : Change) → j < k → k < length xs → (slice_index_or xs j d).component.0 < (slice_index_or xs k d).component.0

-- a rule that takes every value, and makes these changes
abbrev pub making : List Change → Rule
making xs = bare_rule [] xs

-- for each component: the rule, where one of its first k changes names the component, and else its conditions alone
abbrev pub up_to : Rule → ℕ → ℕ → Rule
up_to rule k c = record rule { changes = if is_named rule.changes k c then rule.changes else [] }

-- the change at a place alone says what becomes of component c
pub record IsAlone (xs : List Change) (c k : ℕ) : Type 0 where
  pub known : k < length xs
  pub becomes : (x : Change) (v : PartValue) → slice_index_or xs k x ≡ x → value_after xs c v ≡ updated x.update v

-- Numbers of values of a component of the pool. What each of these values becomes is of the component's domain.
pub record StaysIn (pool : List Values) (c : ℕ) (becomes : PartValue → PartValue) (numbers : Numbers) : Type 0 where
  pub known : c < length pool
  pub alike : numbers.domain ≡ domain_at pool c
  pub listed : (n : ℕ) → IsTrue (has_number numbers n) → n < length (values_at pool c)
  pub within : (v : PartValue) → IsTrue (is_member (plain_set (values_at pool c) numbers) v) → IsWithin (domain_at pool c) (becomes v)

-- So it is of the value with one number.
pub record StaysAt (pool : List Values) (c : ℕ) (becomes : PartValue → PartValue) (n : ℕ) : Type 0 where
  pub known : c < length pool
  pub listed : n < length (values_at pool c)
  pub within : (v : PartValue) → IsNumberOf (values_at pool c) v n → IsWithin (domain_at pool c) (becomes v)

-- what the changes make of the entry's values of a component is of its domain, where the change at a place is the first that names it
pub record StaysWithin (xs : List Change) (k : ℕ) (pool : List Values) (entry : NumberedEntry) : Type 0 where
  pub each : (x : Change) (v : PartValue) → slice_index_or xs k x ≡ x → x.component.0 < length entry.sets → is_named xs k x.component.0 ≡ false →
      IsTrue (is_member (plain_set (values_at pool x.component.0) (numbers_at entry x.component.0)) v) → IsWithin (domain_at pool x.component.0) (value_after xs x.component.0 v)

-- the first sets are those of the numbers of what the component's rule makes of the entry's values that pass
pub record AreAllPassed (rule : ℕ → Rule) (before : List Values) (entry : NumberedEntry) (k : ℕ) (pool : List Values) (sets : List Numbers) : Type 0 where
  pub longer : IsLonger before pool
  pub size : length sets ≡ k
  pub each : (c : ℕ) → c < k → IsPassedSet (rule c) before c (numbers_at entry c) pool (slice_index_or sets c no_set)
