-- What conditions leave of numbered sets.
use Rattle.std.specs.{Prelude.{◌≡◌, ℕ, ◌<◌, ◌&&◌, not, List, [], ◌∷◌, length, IsTrue}, List.{list_any}}
use Rattle.abstract_state.specs.{declared.value.PartValue.{PartValue, TheVariants.{OfSource}}, Tables.{is_member}}
use Rattle.abstract_state.specs.declared.value.SourceVal.TheVariants as source_val
use Rattle.flow_model.specs.{declared.test.Condition.{Condition}, Tests.{is_failed}, Cases.{condition}}
use Rattle.flow_model.specs.declared.test.Test.TheVariants as test
use Rattle.numbered_sets.specs.{declared.numbered_entry.NumberedEntry.{NumberedEntry}, Numbers.{Numbers, has_number}, NumberedEntries.{numbers_at}, Pools.{Values, values_at}}
use Rattle.numbered_sets.specs.Views.{plain_set}

-- the numbers are left of the values that pass these conditions on component c
pub record IsSiftedBy (vs : List PartValue) (c : ℕ) (xs : List Condition) (old new : Numbers) : Type 0 where
  pub domain : new.domain ≡ old.domain
  pub fewer : (n : ℕ) → IsTrue (has_number new n) → IsTrue (has_number old n)
  pub values : (v : PartValue) → is_member (plain_set vs new) v ≡ (is_member (plain_set vs old) v && not (list_any (is_failed c v) xs))

pub record AreSifted (pool : List Values) (xs : List Condition) (old new : NumberedEntry) : Type 0 where
  pub as_many : length new.sets ≡ length old.sets
  pub each : (c : ℕ) → c < length old.sets → IsSiftedBy (values_at pool c) c xs (numbers_at old c) (numbers_at new c)

-- the conditions leave no value of some set
pub record LeavesNone (pool : List Values) (xs : List Condition) (entry : NumberedEntry) : Type 0 where
  pub component : ℕ
  pub known : component < length entry.sets
  pub none : (v : PartValue) → IsTrue (is_member (plain_set (values_at pool component) (numbers_at entry component)) v) → IsTrue (list_any (is_failed component v) xs)

-- so does the one that wants a source in: component c has no other value than Out
abbrev pub HasOutAlone : List Values → ℕ → NumberedEntry → Type 0
HasOutAlone pool c entry = LeavesNone pool (condition c (test.IsNot (OfSource source_val.Out)) ∷ []) entry
