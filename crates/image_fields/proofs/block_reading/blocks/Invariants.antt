use Rattle.std.proofs.Common.{◌≡◌, ◌-◌}
use Rattle.std.specs.List.{zip}
use Rattle.image_fields.specs.{Reading.{entries_at}, BlockReading.{blocks_at}}
use Rattle.image_fields.proofs.BlockLoop.{AreFirst, read_block}
use Rattle.image_fields.proofs.block_reading.blocks.Given as goal

abbrev pub invariant-loop-number : goal.invariant-loop-number
invariant-loop-number l = record {
  first : AreFirst l.blocks l.sites l.number;
  reads : entries_at (read_block l.version l.tables l.count) (zip l.blocks l.sites) (l.count - l.number) l.reader ≡ blocks_at l.version l.tables l.count l.fn.reader;
}
