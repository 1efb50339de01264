-- Sets that are spelled as in the row before.
use Rattle.std.specs.{Prelude.{◌≡◌, ℕ, suc, ◌-◌, ◌<◌, List, [], ◌∷◌, length, slice_index_or, Some, None}, declared.option.Option.{Option}}
use Rattle.osek_standard.specs.declared.{app.App.{App}, point.Point.{Point}}
use Rattle.osek_standard.specs.declared.point.Point.TheVariants as point
use Rattle.abstract_state.specs.declared.{value.{Component.{Component}, PartValue.{PartValue}}, table.{ValueSet.{ValueSet}, PlainEntry.{PlainEntry}, TableRow.{TableRow}}}
use Rattle.abstract_state.specs.{Components.{component_at, IsPart}, Tables.{set_at}}
use Rattle.numbered_sets.specs.{declared.numbered_entry.NumberedEntry.{NumberedEntry}, Numbers.{Numbers}, NumberedEntries.{numbers_at, number_domains}}
use Rattle.table_codec.specs.{Spelling.{set_bytes}, Faults.{IsGoodSet}}

-- The point bars no value of the component that another one allows.
abbrev pub BarsNoValue : App → Point → Component → Type 0
BarsNoValue app p k = (q : Point) (v : PartValue) → IsPart app q k v → IsPart app p k v

-- the values of a set, and those before where it has none
abbrev pub members_or : List PartValue → List PartValue → List PartValue
members_or before [] = before
members_or before (v ∷ vs) = v ∷ vs

abbrev pub set_or : ValueSet → ValueSet → ValueSet
set_or before set = record { domain = set.domain; members = members_or before.members set.members }

abbrev pub sets_or : PlainEntry → ℕ → List ValueSet → List ValueSet
sets_or before c [] = []
sets_or before c (set ∷ sets) = set_or (set_at before c) set ∷ sets_or before (suc c) sets

-- An entry, with the sets of the one before where its own are empty.
abbrev pub filled : PlainEntry → PlainEntry → PlainEntry
filled before entry = record { sets = sets_or before 0 entry.sets }

abbrev pub filled_if : PlainEntry → Option PlainEntry → Option PlainEntry
filled_if before None = None
filled_if before (Some entry) = Some (filled before entry)

-- the entry of the last row, where this is the next one
abbrev pub entry_after : PlainEntry → Option PlainEntry → PlainEntry
entry_after before None = before
entry_after before (Some entry) = filled before entry

abbrev pub no_row : TableRow
no_row = record { point = point.Halted; entry = record { sets = [] } }

abbrev pub last_entry : List TableRow → PlainEntry
last_entry rows = (slice_index_or rows (length rows - 1) no_row).entry

-- the bytes spell the set of the component, which is good at some point
pub record IsSpelledBy (app : App) (k : Component) (set : ValueSet) (bytes : List ℕ) : Type 0 where
  pub point : Point
  pub good : IsGoodSet app point k set.members
  pub are : bytes ≡ set_bytes k set.members

-- so they do, if there are any
abbrev pub IsKept : App → Component → ValueSet → List ℕ → Type 0
IsKept app k set bytes = 0 < length bytes → IsSpelledBy app k set bytes

-- The bytes that are kept for the components, by an entry.
pub record AreKept (app : App) (entry : PlainEntry) (kept : List (List ℕ)) : Type 0 where
  pub each : (c : ℕ) (none : List ℕ) → c < length kept → IsKept app (component_at app c) (set_at entry c) (slice_index_or kept c none)

pub record AreKeptBySome (app : App) (kept : List (List ℕ)) : Type 0 where
  pub entry : PlainEntry
  pub are : AreKept app entry kept

-- No bytes are kept for so many components.
pub record AreNoneKept (count : ℕ) (kept : List (List ℕ)) : Type 0 where
  pub many : length kept ≡ count
  pub none : (c : ℕ) (other : List ℕ) → c < count → slice_index_or kept c other ≡ []

-- the numbers of a set, and those before where it is empty
abbrev pub numbers_or : Numbers → List PartValue → Numbers → Numbers
numbers_or before [] x = before
numbers_or before (v ∷ vs) x = x

-- The entry has the numbers of the one before where the sets are empty, and else what it had.
pub record IsFilled (before : NumberedEntry) (read : PlainEntry) (old new : NumberedEntry) : Type 0 where
  pub domains : number_domains new ≡ number_domains old
  pub each : (c : ℕ) → c < length read.sets → numbers_at new c ≡ numbers_or (numbers_at before c) (set_at read c).members (numbers_at old c)
