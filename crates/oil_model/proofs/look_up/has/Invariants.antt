use Rattle.std.proofs.Common.{◌≡◌, drop}
use Rattle.oil_model.specs.LookUp.{has}
use Rattle.oil_model.proofs.look_up.has.Given as goal

abbrev pub invariant-loop-attr : goal.invariant-loop-attr
invariant-loop-attr l = has l.name (drop l.attr-index l.attrs) ≡ has l.name (l.attrs)
