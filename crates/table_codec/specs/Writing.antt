-- What a writer answers, and what it is given: the values of each component in their order, each with its number.
use Rattle.std.specs.Prelude.{◌≡◌, ⊤, ℕ, ◌+◌, ◌^◌, ◌<◌, ◌≤◌, ◌==◌, List, [], ◌∷◌, ◌++◌, length, sum_by, slice_index_or, All, if◌then◌else◌, Result, Ok, Err}
use Rattle.osek_standard.specs.{declared.point.Point.{Point}, Points.{point_number}}
use Rattle.abstract_state.specs.declared.value.{Component.{Component}, Val.TheVariants.{Suspended, Live, Waiting}, PartValue.{PartValue, TheVariants.{OfTask, OfEvent, OfAlarm, OfSource}}}
use Rattle.abstract_state.specs.declared.value.Component.TheVariants as component
use Rattle.abstract_state.specs.declared.value.SourceVal.TheVariants as source_val
use Rattle.table_codec.specs.{declared.ascending.NumberedValue.{NumberedValue}, Ascending.{values_in, AreInOrder}}
use Rattle.numbered_sets.specs.{Numbers.{Numbers}, Pools.{Values, values_at}, declared.table.NumberedRow.{NumberedRow}}
use Rattle.osek_values.specs.declared.limits.TheConstants.{MAX_TABLE}
use Rattle.table_codec.specs.{declared.fault.WriteFault.{WriteFault, TheVariants.{TooLong, Memory}}, Spelling.{value_bytes, flag_number, sets_bytes}}

-- The bytes are put behind those that were there, or they would be too many then, or memory ran out.
abbrev pub PutsBytes : {X : Type 0} → Result X WriteFault → (before after bytes : List ℕ) → Type 0
PutsBytes (Ok x) before after bytes = after ≡ before ++ bytes
PutsBytes (Err TooLong) before after bytes = MAX_TABLE < length before + length bytes
PutsBytes (Err Memory) before after bytes = ⊤

-- how many resources a value has on its stack
abbrev pub stack_size : PartValue → ℕ
stack_size (OfTask Suspended) = 0
stack_size (OfTask (Live x)) = length x.held
stack_size (OfTask (Waiting b)) = 0
stack_size (OfEvent b) = 0
stack_size (OfAlarm b) = 0
stack_size (OfSource source_val.Out) = 0
stack_size (OfSource (source_val.In x)) = length x.held

-- it has bytes, and its stack's size fits one
pub record CanBeWritten (v : PartValue) : Type 0 where
  pub some : 0 < length (value_bytes v)
  pub few : stack_size v < 2 ^ 8

-- values of a task or of a source, or one of each flag at most
abbrev pub IsWritable : Component → List PartValue → Type 0
IsWritable (component.Task t) vs = All CanBeWritten vs
IsWritable (component.Event t k) vs = sum_by flag_number vs ≤ 3
IsWritable (component.Alarm a) vs = sum_by flag_number vs ≤ 3
IsWritable (component.Source k) vs = All CanBeWritten vs

-- each of the first components has a writable set
abbrev pub AreWritable : List Component → List (List PartValue) → Type 0
AreWritable [] sets = ⊤
AreWritable (k ∷ ks) [] = ⊤
AreWritable (k ∷ ks) (vs ∷ sets) = IsWritable k vs × AreWritable ks sets

-- the values of each component whose numbers are in its set
abbrev pub all_in : List Numbers → List (List NumberedValue) → List (List PartValue)
all_in (x ∷ xs) (all ∷ rest) = values_in x all ∷ all_in xs rest
all_in [] rest = []
all_in (x ∷ xs) [] = []

-- the values of the first components in their order
pub record AreOrdered (pool : List Values) (count : ℕ) (values : List (List NumberedValue)) : Type 0 where
  pub size : length values ≡ count
  pub each : (c : ℕ) (none : List NumberedValue) → c < count → AreInOrder (values_at pool c) (slice_index_or values c none)

-- the rows of points, each the next one where its point is the next
abbrev pub merged_bytes : List Component → List (List NumberedValue) → List Point → List NumberedRow → List ℕ
merged_bytes ks values [] rows = []
merged_bytes ks values (p ∷ ps) [] = 0 ∷ merged_bytes ks values ps []
merged_bytes ks values (p ∷ ps) (row ∷ rows) =
    if point_number row.point == point_number p
    then 1 ∷ (sets_bytes ks (all_in row.entry.sets values) ++ merged_bytes ks values ps rows)
    else 0 ∷ merged_bytes ks values ps (row ∷ rows)
