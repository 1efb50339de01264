use Rattle.std.proofs.Common.{◌≡◌, drop}
use Rattle.oil_model.specs.LookUp.{line}
use Rattle.oil_model.proofs.look_up.line.Given as goal

abbrev pub invariant-loop-attr : goal.invariant-loop-attr
invariant-loop-attr l = line l.name (drop l.attr-index l.attrs) l.default ≡ line l.name (l.attrs) l.default
