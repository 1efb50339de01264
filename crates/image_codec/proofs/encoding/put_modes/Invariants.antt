use Rattle.std.proofs.Common.{◌≡◌, ◌++◌, take}
use Rattle.std.specs.List.{flat_map}
use Rattle.image_codec.specs.Spelling.{name_bytes}
use Rattle.image_codec.proofs.encoding.put_modes.Given as goal

abbrev pub invariant-loop-mode : goal.invariant-loop-mode
invariant-loop-mode l = l.out.items ≡ l.fn.out.items ++ flat_map name_bytes (take l.mode-index l.modes)
