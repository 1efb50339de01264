use Rattle.std.proofs.Common.{◌≡◌, ◌++◌, drop}
use Rattle.std.specs.List.{flat_map, zip}
use Rattle.image_codec.specs.Spelling.{block_bytes}
use Rattle.image_codec.proofs.encoding.put_blocks.Given as goal

abbrev pub invariant-loop-at : goal.invariant-loop-at
invariant-loop-at l = l.out.items ++ flat_map (block_bytes l.version) (zip (drop l.at l.blocks) (drop l.at l.sites)) ≡ l.fn.out.items ++ flat_map (block_bytes l.version) (zip l.blocks l.sites)
