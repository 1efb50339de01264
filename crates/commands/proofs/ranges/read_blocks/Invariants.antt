use Rattle.std.proofs.Common.{ℕ, ◌<◌, get_or}
use Rattle.osek_standard.specs.declared.block.Block.{Block}
use Rattle.image_codec.specs.Fits.{FitsBlock}
use Rattle.commands.proofs.ranges.read_blocks.Given as goal

abbrev pub invariant-loop-block : goal.invariant-loop-block
invariant-loop-block l = (k : ℕ) (d : Block) → k < l.block-index → FitsBlock (get_or l.blocks k d)
