-- What a call sees of the outside, before it and after it.
use Rattle.std.specs.Prelude.{◌≡◌, ℕ, Option}
use Rattle.osek_io.specs.{Counts.{ReadFaults}, Files.{Files}, Sunk.{Sunk, sunk}, declared.{shelf.Shelf.{Ghosts as ShelfGhosts}, sink.Sink.{Ghosts as SinkGhosts}}}

-- what a shelf tells: its files, and the counts of failed reads and of failed writes
pub record Told : Type 0 where
  pub files : Option Files
  pub reads : ReadFaults
  pub writes : ℕ

-- with what is known of out
pub record Outside : Type 0 where
  pub shelf : Told
  pub out : Sunk

abbrev pub told : {F : Type 0} → ShelfGhosts F → F → Told
told g shelf = record { files = g.contents shelf; reads = g.read_faults shelf; writes = g.write_faults shelf }

abbrev pub beside : Told → Sunk → Outside
beside shelf out = record { shelf = shelf; out = out }

abbrev pub outside : {F O : Type 0} → ShelfGhosts F → SinkGhosts O → F → O → Outside
outside f o shelf out = beside (told f shelf) (sunk o out)

-- no file changed, and none failed to be written
abbrev pub SameFiles : (before after : Told) → Type 0
SameFiles before after = (after.files ≡ before.files) × (after.writes ≡ before.writes)
