-- What holds of all spellings, and of the first fault of bytes.
use Rattle.std.specs.Prelude.{◌≡◌, ◌⊎◌, List, [], ◌∷◌, ℕ, ◌++◌, length, Some, Ok, Err}
use Rattle.image_model.specs.declared.image.{Image.{Image}, Version.{Version}}
use Rattle.image_codec.specs.{declared.fault.ImageFault.{ImageFault}, Spelling.{spelling}, Fits.{FitsFormat}}
use Rattle.image_codec.specs.ImageReading.{located, read_image, parts_of}
use Rattle.image_fields.specs.declared.fault.Fault.{Fault}
use Rattle.image_fields.specs.Reading.{AreBytes, name_at}
use Rattle.oil_system.specs.declared.objects.{Alarm.{Alarm}, Resource.{Resource}}
use Rattle.osek_standard.specs.declared.objects.{Task.{Task}, Isr.{Isr}, Counter.{Counter}}
use Rattle.image_fields.specs.declared.parts.{Header.{Header}, Tables.{Tables}}
use Rattle.image_fields.specs.TableReading.{header_at, task_at, isr_at, counter_at, alarm_at, resource_at, tables_at}
use Rattle.image_fields.specs.BlockReading.{blocks_at}
use Rattle.image_codec.specs.FieldTable.{fault_of, first_broken, name_field, header_fields, task_fields, isr_fields, counter_fields, alarm_fields, resource_fields, blocks_fault}

-- equal bytes mean equal images, whatever follows them
abbrev pub OneSpelling : Type 0
OneSpelling = (i j : Image) (x y : List ℕ) → FitsFormat i → FitsFormat j → spelling i ++ x ≡ spelling j ++ y → (i ≡ j) × (x ≡ y)

-- Bytes spell an image, or have a first fault;
abbrev pub SpellOrFail : Type 0
SpellOrFail = (bytes : List ℕ) → AreBytes bytes → ((i : Image) × FitsFormat i × (spelling i ≡ bytes)) ⊎ ((f : ImageFault) × (read_image bytes ≡ Err f))

-- and those that spell one have none.
abbrev pub SpellingIsRead : Type 0
SpellingIsRead = (i : Image) → FitsFormat i → read_image (spelling i) ≡ Ok (parts_of i)

-- The first fault of the header is that of the first of its fields that breaks a rule;
abbrev pub HeaderFaults : Type 0
HeaderFaults = (bytes : List ℕ) → fault_of (header_at bytes) ≡ first_broken header_fields bytes

-- so is that of an entry of a table, beside the earlier entries,
pub record EntryFaults : Type 0 where
  pub task : (n : Header) (earlier : List Task) (bytes : List ℕ) → fault_of (task_at n earlier bytes) ≡ first_broken (task_fields n earlier bytes) bytes
  pub isr : (n : Header) (tasks : List Task) (earlier : List Isr) (bytes : List ℕ) → fault_of (isr_at n tasks earlier bytes) ≡ first_broken (isr_fields n tasks earlier bytes) bytes
  pub counter : (n : Header) (tasks : List Task) (isrs : List Isr) (earlier : List Counter) (bytes : List ℕ)
      → fault_of (counter_at n tasks isrs earlier bytes) ≡ first_broken (counter_fields n tasks isrs earlier bytes) bytes
  pub alarm : (n : Header) (counters : List Counter) (earlier : List Alarm) (bytes : List ℕ) → fault_of (alarm_at n counters earlier bytes) ≡ first_broken (alarm_fields n counters earlier bytes) bytes
  pub resource : (v : Version) (tasks : List Task) (earlier : List Resource) (bytes : List ℕ)
      → fault_of (resource_at v tasks earlier bytes) ≡ first_broken (resource_fields v tasks earlier) bytes
  pub mode : (earlier : List (List ℕ)) (bytes : List ℕ) → fault_of (name_at earlier bytes) ≡ first_broken (name_field earlier ∷ []) bytes

-- that of the blocks behind the tables,
abbrev pub BlocksFaults : Type 0
BlocksFaults = (v : Version) (t : Tables) (blocks : ℕ) (bytes : List ℕ) → fault_of (blocks_at v t blocks bytes) ≡ blocks_fault v t blocks blocks 0 bytes

-- and where the tables have none, it is the image's.
abbrev pub ImageFaults : Type 0
ImageFaults = (bytes : List ℕ) (h : Header) (t : Tables) (behind_header behind_tables : List ℕ) (f : Fault)
    → header_at bytes ≡ Ok (h, behind_header) → tables_at h behind_header ≡ Ok (t, behind_tables)
    → blocks_fault h.version t h.blocks h.blocks 0 behind_tables ≡ Some f → read_image bytes ≡ Err (located (length bytes) f)
