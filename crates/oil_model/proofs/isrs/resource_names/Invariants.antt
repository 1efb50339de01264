use Rattle.std.proofs.Common.{◌≡◌, take}
use Rattle.std.specs.List.{flat_map}
use Rattle.oil_model.specs.Systems.{resource_names_in}
use Rattle.oil_model.proofs.isrs.resource_names.Given as goal

abbrev pub invariant-loop-attr : goal.invariant-loop-attr
invariant-loop-attr l = l.names.items ≡ flat_map resource_names_in (take l.attr-index l.attrs)
