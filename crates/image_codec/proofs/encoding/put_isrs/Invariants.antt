use Rattle.std.proofs.Common.{◌≡◌, ◌++◌, take}
use Rattle.std.specs.List.{flat_map}
use Rattle.image_codec.specs.Spelling.{isr_bytes}
use Rattle.image_codec.proofs.encoding.put_isrs.Given as goal

abbrev pub invariant-loop-isr : goal.invariant-loop-isr
invariant-loop-isr l = l.out.items ≡ l.fn.out.items ++ flat_map (isr_bytes l.version) (take l.isr-index l.isrs)
