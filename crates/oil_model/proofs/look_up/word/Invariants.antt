use Rattle.std.proofs.Common.{◌≡◌, drop}
use Rattle.oil_model.specs.LookUp.{word}
use Rattle.oil_model.proofs.look_up.word.Given as goal

abbrev pub invariant-loop-attr : goal.invariant-loop-attr
invariant-loop-attr l = word l.name (drop l.attr-index l.attrs) ≡ word l.name (l.attrs)
