-- What holds of all spellings, and of the first fault of bytes.
use Rattle.std.specs.Prelude.{◌≡◌, ◌⊎◌, ℕ, ◌<◌, ◌^◌, List, ◌++◌, length, slice_index}
use Rattle.osek_standard.specs.declared.app.App.{App}
use Rattle.abstract_state.specs.{declared.table.PlainTable.{PlainTable}, Domains.{HasMasks}, Written.{IsWritten}}
use Rattle.table_codec.specs.{declared.fault.TableFault.{TableFault}, Spelling.{spelling, IsSpellable}, Faults.{IsFirstFault}}

-- equal bytes mean equal tables, whatever follows them
abbrev pub OneSpelling : Type 0
OneSpelling = (app : App) (a b : PlainTable) (x y : List ℕ) → IsSpellable app a → IsSpellable app b → spelling app a ++ x ≡ spelling app b ++ y → (a ≡ b) × (x ≡ y)

-- a written table that is spelled in fewer bytes than a count can say is such a table
abbrev pub ShortIsSpellable : Type 0
ShortIsSpellable = (app : App) (table : PlainTable) → IsWritten app table → length (spelling app table) < 2 ^ 32 → IsSpellable app table

-- bytes that spell a table have no fault
abbrev pub OneAnswer : Type 0
OneAnswer = (app : App) (table : PlainTable) (f : TableFault) → IsSpellable app table → IsFirstFault app (spelling app table) f → ⊥

-- one fault is the first
abbrev pub OneFault : Type 0
OneFault = (app : App) (bytes : List ℕ) (f g : TableFault) → IsFirstFault app bytes f → IsFirstFault app bytes g → f ≡ g

-- bytes spell a table, or have a first fault
abbrev pub SomeAnswer : Type 0
SomeAnswer = (app : App) (bytes : List ℕ) → HasMasks app → ((i : ℕ) → slice_index bytes i < 256)
    → ((table : PlainTable) × IsSpellable app table × (spelling app table ≡ bytes)) ⊎ ((f : TableFault) × IsFirstFault app bytes f)
