use Rattle.std.proofs.Common.{◌≡◌, drop}
use Rattle.oil_model.specs.LookUp.{inner}
use Rattle.oil_model.proofs.look_up.inner.Given as goal

abbrev pub invariant-loop-attr : goal.invariant-loop-attr
invariant-loop-attr l = inner l.name (drop l.attr-index l.attrs) ≡ inner l.name (l.attrs)
