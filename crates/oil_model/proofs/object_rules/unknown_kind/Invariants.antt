use Rattle.std.proofs.Common.{◌≡◌, drop}
use Rattle.oil_model.specs.{Lines.{sooner, least}, Rules.{unknown_kinds}}
use Rattle.oil_model.proofs.object_rules.unknown_kind.Given as goal

abbrev pub invariant-loop-object : goal.invariant-loop-object
invariant-loop-object l = sooner l.best (least (unknown_kinds (drop l.object-index l.objects))) ≡ least (unknown_kinds l.objects)
