use Rattle.std.proofs.Common.{◌≡◌, drop}
use Rattle.oil_model.specs.Systems.{mode_bits}
use Rattle.oil_model.proofs.modes.mode_bits.Given as goal

abbrev pub invariant-loop-attr : goal.invariant-loop-attr
invariant-loop-attr l = mode_bits l.bits l.modes (drop l.attr-index l.attrs) ≡ mode_bits 0 l.modes l.attrs
