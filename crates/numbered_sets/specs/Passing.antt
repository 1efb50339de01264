-- Tests of values, and the numbers of those that pass.
use Rattle.std.specs.Prelude.{◌≡◌, ℕ, ◌<◌, Bool, true, false, ◌&&◌, List, length, slice_index_or, IsTrue}
use Rattle.abstract_state.specs.{declared.value.PartValue.{PartValue}, ValueOrder.{same_part}, Tables.{is_member}}
use Rattle.flow_model.specs.{declared.test.Test.{Test}, Tests.{passes}}
use Rattle.flow_model.specs.declared.test.Test.TheVariants as test
use Rattle.numbered_sets.specs.{Numbers.{Numbers, has_number}, Views.{plain_set}}

-- A test of what a task does and holds, wherever it stands.
abbrev pub reads_no_block : Test → Bool
reads_no_block (test.Is w) = false
reads_no_block (test.IsNot w) = false
reads_no_block _ = true

-- The numbers of a set whose values pass.
pub record ArePassing (vs : List PartValue) (t : Test) (x passing : Numbers) : Type 0 where
  pub each : (n : ℕ) (none : PartValue) → n < length vs → has_number passing n ≡ (has_number x n && passes t (slice_index_or vs n none))

-- The set has the number of this value, and no other.
pub record IsNumberAlone (vs : List PartValue) (v : PartValue) (x : Numbers) : Type 0 where
  pub each : (n : ℕ) (none : PartValue) → n < length vs → has_number x n ≡ same_part (slice_index_or vs n none) v

-- The numbers are left whose values pass.
pub record IsSifted (vs : List PartValue) (t : Test) (old new : Numbers) : Type 0 where
  pub domain : new.domain ≡ old.domain
  pub fewer : (n : ℕ) → IsTrue (has_number new n) → IsTrue (has_number old n)
  pub values : (v : PartValue) → is_member (plain_set vs new) v ≡ (is_member (plain_set vs old) v && passes t v)
