-- What bytes are: the parts of an image, or the first fault with its offset.
use Rattle.std.specs.Prelude.{◌≡◌, ℕ, ◌-◌, ◌==◌, List, length, map, Option, Result, Ok, Err}
use Rattle.image_fields.specs.declared.fault.Fault.{Fault}
use Rattle.image_codec.specs.declared.fault.ImageFault.{ImageFault}
use Rattle.osek_values.specs.declared.refused.Refused.{Refused}
use Rattle.osek_values.specs.declared.refused.Refused.TheVariants as errors
use Rattle.image_model.specs.declared.image.Image.{Image}
use Rattle.osek_standard.specs.declared.block.Block.{Block}
use Rattle.image_model.specs.declared.site.Site.{Site}
use Rattle.image_codec.specs.declared.parts.Parts.{Parts}
use Rattle.image_fields.specs.declared.fault.ImageRule.TheVariants.{I6}
use Rattle.image_fields.specs.{Reading.{Read, ◌>>=◌, kept}, TableReading.{header_at, tables_at}, BlockReading.{blocks_at}}

-- an image at the front of bytes
unfoldable pub parts_at : List ℕ → Read Parts
parts_at bytes = do
  n ← header_at bytes
  tables ← tables_at n.0 n.1
  blocks ← blocks_at n.0.version tables.0 n.0.blocks tables.1
  Ok (record { version = n.0.version; hooks = n.0.hooks; tables = tables.0; blocks = map (λ (x : Block × Option Site). x.0) blocks.0; sites = map (λ (x : Block × Option Site). x.1) blocks.0 }, blocks.1)

-- an image that is all of the bytes
unfoldable pub all_at : List ℕ → Read Parts
all_at bytes = do
  p ← parts_at bytes
  kept (length p.1 == 0) I6 p.1 p

-- a fault where so many of the bytes are left, at its offset
abbrev pub located : ℕ → Fault → ImageFault
located len f = record { rule = f.rule; offset = len - f.left }

abbrev pub placed : ℕ → Read Parts → Result Parts ImageFault
placed len (Ok x) = Ok x.0
placed len (Err f) = Err (located len f)

-- The parts of the image that the bytes spell, or the first fault.
unfoldable pub read_image : List ℕ → Result Parts ImageFault
read_image bytes = placed (length bytes) (all_at bytes)

abbrev pub parts_of : Image → Parts
parts_of i = record {
  version = i.version;
  hooks = i.app.hooks;
  tables = record { tasks = i.app.tasks; isrs = i.app.isrs; counters = i.app.counters; alarms = i.app.alarms; resources = i.app.resources; modes = i.app.modes };
  blocks = i.app.blocks;
  sites = i.sites;
}

-- An answer for bytes is what reading gives, unless memory ran out.
abbrev pub AnswersParts : Result Image (Refused ImageFault) → Result Parts ImageFault → Type 0
AnswersParts (Ok i) read = read ≡ Ok (parts_of i)
AnswersParts (Err errors.Memory) read = Unit {0}
AnswersParts (Err (errors.Fault f)) read = read ≡ Err f

-- the image is answered, unless memory ran out
abbrev pub IsAnswered : Image → Result Image (Refused ImageFault) → Type 0
IsAnswered i (Ok j) = j ≡ i
IsAnswered i (Err errors.Memory) = Unit {0}
IsAnswered i (Err (errors.Fault f)) = ⊥
