-- Tests that values were asked once, with the numbers of those that pass.
use Rattle.std.specs.Prelude.{◌≡◌, ℕ, ◌<◌, ◌≤◌, false, List, length, slice_index_or, Contains}
use Rattle.abstract_state.specs.declared.value.PartValue.{PartValue}
use Rattle.flow_model.specs.{declared.test.Test.{Test}, Tests.{passes}}
use Rattle.numbered_sets.specs.{declared.judged.JudgedTest.{JudgedTest}, Numbers.{has_number}}

-- The numbers are those of the first values that pass.
pub record IsJudgedTest (vs : List PartValue) (x : JudgedTest) : Type 0 where
  pub few : x.judged ≤ length vs
  pub each : (n : ℕ) (none : PartValue) → n < x.judged → has_number x.passing n ≡ passes x.test (slice_index_or vs n none)
  pub past : (n : ℕ) → x.judged ≤ n → has_number x.passing n ≡ false

abbrev pub AreJudgedTests : List PartValue → List JudgedTest → Type 0
AreJudgedTests vs tests = (x : JudgedTest) → Contains tests x → IsJudgedTest vs x

-- the test stands at this place
pub record HasTestAt (t : Test) (tests : List JudgedTest) (place : ℕ) : Type 0 where
  pub known : place < length tests
  pub is : (none : JudgedTest) → (slice_index_or tests place none).test ≡ t

-- and all values were asked
pub record IsAskedAt (vs : List PartValue) (t : Test) (tests : List JudgedTest) (place : ℕ) : Type 0 where
  pub at : HasTestAt t tests place
  pub all : (none : JudgedTest) → (slice_index_or tests place none).judged ≡ length vs
