use Rattle.std.proofs.Common.{◌≡◌, drop}
use Rattle.std.specs.List.{list_any}
use Rattle.oil_model.specs.Systems.{is_naming, names_resource}
use Rattle.oil_model.proofs.resources.names_resource.Given as goal

abbrev pub invariant-loop-attr : goal.invariant-loop-attr
invariant-loop-attr l = list_any (is_naming l.name) (drop l.attr-index l.attr-items) ≡ names_resource l.name l.object
