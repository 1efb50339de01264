use Rattle.std.proofs.Common.{◌≡◌, drop}
use Rattle.oil_model.specs.Systems.{internal}
use Rattle.oil_model.proofs.internals.internal.Given as goal

abbrev pub invariant-loop-attr : goal.invariant-loop-attr
invariant-loop-attr l = internal l.resources (drop l.attr-index l.attrs) ≡ internal l.resources l.attrs
