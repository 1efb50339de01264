-- The bytes of a table: each point in order, with what the components can be there, numbers big-endian (this project's profile).
use Rattle.std.specs.{Prelude.{ℕ, suc, ◌^◌, ◌<◌, ◌==◌, List, [], ◌∷◌, ◌++◌, length, map, filter, sum_by, if◌then◌else◌, codes, All}, List.{flat_map, zip}, Int.{to_be_bytes, w16, w32}}
use Rattle.osek_values.specs.declared.numbers.ResNo.{ResNo}
use Rattle.osek_standard.specs.declared.{app.App.{App}, point.Point.{Point}}
use Rattle.abstract_state.specs.declared.value.{Val.{Val, TheVariants.{Suspended, Live, Waiting}}, SourceVal.{SourceVal}, Component.{Component}, PartValue.{PartValue, TheVariants.{OfTask, OfEvent, OfAlarm, OfSource}}}
use Rattle.abstract_state.specs.declared.value.SourceVal.TheVariants as source_val
use Rattle.abstract_state.specs.declared.value.Component.TheVariants as component
use Rattle.abstract_state.specs.{declared.table.{ValueSet.{ValueSet}, PlainEntry.{PlainEntry}, TableRow.{TableRow}, PlainTable.{PlainTable}}, Components.{components}}
use Rattle.abstract_state.specs.{Concrete.{flag_of}, ValueOrder.{flag_field}, Tables.{is_row_of}, Written.{IsWritten}}
use Rattle.osek_standard.specs.Points.{points_in_order}

-- the numbers of the resources on a stack, the first taken first
abbrev pub resource_numbers : List ResNo → List ℕ
resource_numbers held = map (λ (q : ResNo). q.0) held

-- How a task stands: 0 suspended, 1 Live, 2 waiting; then its block, its further activations, whether it is inside, the size
-- of its stack, and the stack.
abbrev pub task_fields : Val → List ℕ
task_fields Suspended = 0 ∷ []
task_fields (Live x) = 1 ∷ x.block.0 ∷ x.further ∷ flag_field x.inside ∷ length x.held ∷ resource_numbers x.held
task_fields (Waiting b) = 2 ∷ b.0 ∷ []

-- Whether a routine began, 1, or not, 0; then its block, the size of its stack, and the stack.
abbrev pub source_numbers : SourceVal → List ℕ
source_numbers source_val.Out = 0 ∷ []
source_numbers (source_val.In x) = 1 ∷ x.block.0 ∷ length x.held ∷ resource_numbers x.held

-- The fields of a value that is written by itself.
abbrev pub value_fields : PartValue → List ℕ
value_fields (OfTask v) = task_fields v
value_fields (OfEvent b) = []
value_fields (OfAlarm b) = []
value_fields (OfSource v) = source_numbers v

-- A block takes two bytes, and each other field one.
abbrev pub field_width : ℕ → ℕ
field_width place = if place == 1 then 2 else 1

-- a field's numbers are below this
abbrev pub field_limit : ℕ → ℕ
field_limit place = if place == 1 then 2 ^ 16 else 2 ^ 8

abbrev pub field_bytes : (place n : ℕ) → List ℕ
field_bytes place n = if place == 1 then to_be_bytes w16 n else n ∷ []

-- fields from a place on
abbrev pub fields_from : (place : ℕ) → List ℕ → List ℕ
fields_from place [] = []
fields_from place (n ∷ ns) = field_bytes place n ++ fields_from (suc place) ns

abbrev pub value_bytes : PartValue → List ℕ
value_bytes v = fields_from 0 (value_fields v)

-- values one after the other: how many, and each
abbrev pub listed : List PartValue → List ℕ
listed vs = to_be_bytes w32 (length vs) ++ flat_map value_bytes vs

-- 1 where an event isn't set or an alarm is idle, and 2 where it is set or armed; so 3 for both
abbrev pub flag_number : PartValue → ℕ
flag_number v = if flag_of v then 2 else 1

abbrev pub flags : List PartValue → List ℕ
flags vs = sum_by flag_number vs ∷ []

abbrev pub set_bytes : Component → List PartValue → List ℕ
set_bytes (component.Task t) vs = listed vs
set_bytes (component.Event t k) vs = flags vs
set_bytes (component.Alarm a) vs = flags vs
set_bytes (component.Source k) vs = listed vs

-- the set of each component
abbrev pub sets_bytes : List Component → List (List PartValue) → List ℕ
sets_bytes ks sets = flat_map (λ (d : Component × List PartValue). set_bytes d.0 d.1) (zip ks sets)

-- the values of an entry
abbrev pub members_of : PlainEntry → List (List PartValue)
members_of entry = map (λ (set : ValueSet). set.members) entry.sets

abbrev pub entry_bytes : App → PlainEntry → List ℕ
entry_bytes app entry = sets_bytes (components app) (members_of entry)

-- a byte that says whether the point has an entry, and the entry
abbrev pub rows_bytes : App → List TableRow → List ℕ
rows_bytes app [] = 0 ∷ []
rows_bytes app (row ∷ rows) = 1 ∷ entry_bytes app row.entry

abbrev pub point_bytes : App → List TableRow → Point → List ℕ
point_bytes app rows p = rows_bytes app (filter (is_row_of p) rows)

-- OSEKTAB, and the version
abbrev pub magic : List ℕ
magic = codes "OSEKTAB" ++ 2 ∷ []

-- The one spelling of a table of an application.
unfoldable pub spelling : App → PlainTable → List ℕ
spelling app table = magic ++ flat_map (point_bytes app table.rows) (points_in_order app)

-- No set has more values than a count of 32 bits can say, so that the bytes tell the table.
pub record IsSpellable (app : App) (table : PlainTable) : Type 0 where
  pub written : IsWritten app table
  pub few : All (λ (row : TableRow). All (λ (set : ValueSet). length set.members < 2 ^ 32) row.entry.sets) table.rows
