use Rattle.std.proofs.Common.{◌≡◌, drop}
use Rattle.std.specs.Prelude.{map, filter}
use Rattle.oil_model.specs.{Lines.{sooner, least}, LookUp.{attr_line}, Rules.{is_wrong}}
use Rattle.oil_model.proofs.attribute_rules.least_wrong.Given as goal

abbrev pub invariant-loop-attr : goal.invariant-loop-attr
invariant-loop-attr l = sooner l.best (least (map attr_line (filter (is_wrong l.scope) (drop l.attr-index l.attrs)))) ≡ least (map attr_line (filter (is_wrong l.scope) l.attrs))
