-- The answers of `certify`, each with its cause and what it leaves.
use Rattle.std.specs.Prelude.{◌≡◌, ◌<◌, ◌≤◌, ℕ, List, length, Result, Ok, Err}
use Rattle.osek_values.specs.declared.limits.TheConstants.{MAX_TABLE}
use Rattle.osek_standard.specs.declared.app.App.{App}
use Rattle.image_model.specs.declared.image.Image.{Image}
use Rattle.image_codec.specs.Spelling.{spelling}
use Rattle.abstract_state.specs.{declared.table.PlainTable.{PlainTable}, Tables.{sets_of}}
use Rattle.dictated_forms.specs.Forms.{HasDictatedForms, HasDictatedStatuses}
use Rattle.table_codec.specs.Spelling.{spelling as table_spelling}
use Rattle.osek_io.specs.{Counts.{Rose}, Files.{with_file}, Stored.{StoresProperPrefix}}
use Rattle.command_runs.specs.{Outside.{Told, Outside, SameFiles}, declared.stop.Stop.{Stop}}
use Rattle.command_runs.specs.declared.stop.Output.TheVariants as output
use Rattle.command_runs.specs.declared.stop.Stop.TheVariants as stop
use Rattle.commands.specs.{Compiling.{OfApp, CompileStops}, Fitting.{IsFitted, IsLeastTable}}

-- The image is fitted to the application by this table, which is its least one, with bytes within the limit of a table.
pub record IsCertified (app : App) (i : Image) (table : PlainTable) : Type 0 where
  pub fitted : IsFitted app i
  pub least : IsLeastTable app table
  pub forms : HasDictatedForms (sets_of table) i
  pub statuses : HasDictatedStatuses (sets_of table) i
  pub within : length (table_spelling app table) ≤ MAX_TABLE

-- the bytes of an image and of a table that are so
pub record SpellCertified (app : App) (image_bytes table_bytes : List ℕ) : Type 0 where
  pub image : Image
  pub table : PlainTable
  pub certified : IsCertified app image table
  pub image_are : image_bytes ≡ spelling image
  pub table_are : table_bytes ≡ table_spelling app table

-- the bytes of the least table are over the limit of a table
abbrev pub IsTableTooLong : App → Type 0
IsTableTooLong app = (table : PlainTable) × IsLeastTable app table × (MAX_TABLE < length (table_spelling app table))

-- Both are stored, the image and then the table; or a write fails: the files are as they were or the image's holds a prefix of its bytes, or
-- the image is stored, all of it, and of the table nothing yet or a prefix.
pub data StoreAnswers (before after : Told) (image table image_bytes table_bytes : List ℕ) : Result (Unit {0}) Stop → Type 0 where
  image_fails : Rose before.writes after.writes → StoresProperPrefix before.files after.files image image_bytes →
      StoreAnswers before after image table image_bytes table_bytes (Err (stop.Unstored output.Image))
  table_fails : Rose before.writes after.writes → StoresProperPrefix (with_file before.files image image_bytes) after.files table table_bytes →
      StoreAnswers before after image table image_bytes table_bytes (Err (stop.Unstored output.Table))
  stored : after.writes ≡ before.writes → after.files ≡ with_file (with_file before.files image image_bytes) table table_bytes →
      StoreAnswers before after image table image_bytes table_bytes (Ok tt)

-- what is stored of an application is so
abbrev pub StoresCertified : (before after : Told) → (image table : List ℕ) → Result (Unit {0}) Stop → App → Type 0
StoresCertified before after image table r app =
    (i : Image) × (t : PlainTable) × IsCertified app i t × StoreAnswers before after image table (spelling i) (table_spelling app t) r

-- `certify` stops at the texts, or the table is over its limit, and no file is written; or both are stored, as far as no write fails.
pub data CertifyAnswers (before after : Outside) (oil code image table : List ℕ) : Result (Unit {0}) Stop → Type 0 where
  stops : (s : Stop) → CompileStops before.shelf after.shelf oil code s → SameFiles before.shelf after.shelf → CertifyAnswers before after oil code image table (Err s)
  too_long : OfApp before.shelf.files oil code IsTableTooLong → SameFiles before.shelf after.shelf → CertifyAnswers before after oil code image table (Err stop.TooLong)
  stores : (r : Result (Unit {0}) Stop) → OfApp before.shelf.files oil code (StoresCertified before.shelf after.shelf image table r) → CertifyAnswers before after oil code image table r
