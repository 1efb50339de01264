use Rattle.std.proofs.Common.{◌≡◌, drop}
use Rattle.oil_model.specs.Systems.{number_from, number_in}
use Rattle.oil_model.proofs.modes.number_in.Given as goal

abbrev pub invariant-loop-i : goal.invariant-loop-i
invariant-loop-i l = number_from l.i l.name (drop l.i l.names) ≡ number_in l.names l.name
