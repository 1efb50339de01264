use Rattle.std.proofs.Common.{◌≡◌, ◌++◌, take}
use Rattle.std.specs.List.{flat_map}
use Rattle.image_codec.specs.Spelling.{resource_bytes}
use Rattle.image_codec.proofs.encoding.put_resources.Given as goal

abbrev pub invariant-loop-resource : goal.invariant-loop-resource
invariant-loop-resource l = l.out.items ≡ l.fn.out.items ++ flat_map (resource_bytes l.version) (take l.resource-index l.resources)
