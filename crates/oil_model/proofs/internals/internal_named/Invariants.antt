use Rattle.std.proofs.Common.{◌≡◌, drop}
use Rattle.oil_model.specs.Systems.{internal_from}
use Rattle.oil_model.proofs.internals.internal_named.Given as goal

abbrev pub invariant-loop-i : goal.invariant-loop-i
invariant-loop-i l = internal_from l.i l.name (drop l.i l.resources) ≡ internal_from 0 l.name l.resources
