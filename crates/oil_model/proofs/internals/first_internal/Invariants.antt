use Rattle.std.proofs.Common.{◌≡◌, drop}
use Rattle.oil_model.specs.Rules.{first_internal}
use Rattle.oil_model.proofs.internals.first_internal.Given as goal

abbrev pub invariant-loop-attr : goal.invariant-loop-attr
invariant-loop-attr l = first_internal l.objects (drop l.attr-index l.attrs) ≡ first_internal l.objects l.attrs
