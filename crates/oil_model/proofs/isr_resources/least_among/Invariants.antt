use Rattle.std.proofs.Common.{◌≡◌, drop}
use Rattle.std.specs.Prelude.{map, filter}
use Rattle.oil_model.specs.{Lines.{sooner, least}, LookUp.{attr_line}, Rules.{names_barred}}
use Rattle.oil_model.proofs.isr_resources.least_among.Given as goal

abbrev pub invariant-loop-attr : goal.invariant-loop-attr
invariant-loop-attr l = sooner l.best (least (map attr_line (filter (names_barred l.scheduler l.objects) (drop l.attr-index l.attrs)))) ≡ least (map attr_line (filter (names_barred l.scheduler l.objects) l.attrs))
