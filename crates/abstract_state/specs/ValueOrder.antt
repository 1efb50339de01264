-- The order of values: that of the fields by which a value is written down.
use Rattle.std.specs.{Prelude.{◌≡◌, ℕ, ◌<◌, ◌≤◌, Bool, true, false, List, [], ◌∷◌, length, map, take, slice_index_or, All}, Cmp.Lexicographic.{slice_cmp}}
use Rattle.std.specs.{List.Sorted.{IsStrictlySortedBy}, Ordering.{nat_cmp, eq_by_cmp}, declared.cmp.Ordering.{Ordering, TheVariants.{Less}}}
use Rattle.osek_values.specs.declared.numbers.ResNo.{ResNo}
use Rattle.abstract_state.specs.declared.value.{LiveVal.{LiveVal}, Val.{Val, TheVariants.{Suspended, Live, Waiting}}, SourceVal.{SourceVal}, RoutineVal.{RoutineVal}}
use Rattle.abstract_state.specs.declared.value.PartValue.{PartValue, TheVariants.{OfTask, OfEvent, OfAlarm, OfSource}}
use Rattle.abstract_state.specs.declared.value.SourceVal.TheVariants as source_val

abbrev pub flag_field : Bool → ℕ
flag_field false = 0
flag_field true = 1

-- how many resources are held, and these, the first taken first
abbrev pub held_fields : List ResNo → List ℕ
held_fields held = length held ∷ map (λ (q : ResNo). q.0) held

-- the block, the further activations, whether it is inside, and what is held
abbrev pub live_fields : LiveVal → List ℕ
live_fields x = x.block.0 ∷ x.further ∷ flag_field x.inside ∷ held_fields x.held

abbrev pub val_fields : Val → List ℕ
val_fields Suspended = 0 ∷ []
val_fields (Live x) = 1 ∷ live_fields x
val_fields (Waiting b) = 2 ∷ b.0 ∷ []

-- the block, and what is held
abbrev pub routine_fields : RoutineVal → List ℕ
routine_fields x = x.block.0 ∷ held_fields x.held

abbrev pub source_fields : SourceVal → List ℕ
source_fields source_val.Out = 0 ∷ []
source_fields (source_val.In x) = 1 ∷ routine_fields x

abbrev pub part_fields : PartValue → List ℕ
part_fields (OfTask v) = 0 ∷ val_fields v
part_fields (OfEvent b) = 1 ∷ flag_field b ∷ []
part_fields (OfAlarm b) = 2 ∷ flag_field b ∷ []
part_fields (OfSource v) = 3 ∷ source_fields v

-- How a value stands to another.
abbrev pub part_order : PartValue → PartValue → Ordering
part_order v w = slice_cmp nat_cmp (part_fields v) (part_fields w)

abbrev pub same_part : PartValue → PartValue → Bool
same_part = eq_by_cmp part_order

-- Each value is before those after it.
abbrev pub IsAscending : List PartValue → Type 0
IsAscending = IsStrictlySortedBy part_order

-- those below the place are before the value
pub record AreBefore (members : List PartValue) (place : ℕ) (value : PartValue) : Type 0 where
  pub known : place ≤ length members
  pub each : All (λ (v : PartValue). part_order v value ≡ Less) (take place members)

-- the value stands there
pub record IsPlace (members : List PartValue) (place : ℕ) (value : PartValue) : Type 0 where
  pub known : place < length members
  pub passed : AreBefore members place value
  pub is : (d : PartValue) → slice_index_or members place d ≡ value

-- it is no member, and belongs there
pub record IsGap (members : List PartValue) (place : ℕ) (value : PartValue) : Type 0 where
  pub passed : AreBefore members place value
  pub next : (d : PartValue) → place < length members → part_order value (slice_index_or members place d) ≡ Less
