use Rattle.std.proofs.Common.{◌≡◌, drop}
use Rattle.std.specs.Prelude.{map, if◌then◌else◌}
use Rattle.oil_model.specs.{Lines.{sooner, least}, LookUp.{named, attr_line}}
use Rattle.oil_model.proofs.attribute_rules.double.Given as goal

abbrev pub invariant-loop-attr : goal.invariant-loop-attr
invariant-loop-attr l = sooner l.best (least (map attr_line (if l.seen then named l.name (drop l.attr-index l.attrs) else drop 1 (named l.name (drop l.attr-index l.attrs))))) ≡ least (map attr_line (drop 1 (named l.name l.attrs)))
