use Rattle.std.proofs.Common.{◌≡◌, drop}
use Rattle.oil_model.specs.LookUp.{number}
use Rattle.oil_model.proofs.look_up.number.Given as goal

abbrev pub invariant-loop-attr : goal.invariant-loop-attr
invariant-loop-attr l = number l.name (drop l.attr-index l.attrs) l.default ≡ number l.name (l.attrs) l.default
