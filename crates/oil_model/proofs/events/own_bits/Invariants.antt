use Rattle.std.proofs.Common.{◌≡◌, drop}
use Rattle.oil_model.specs.Systems.{own_bits}
use Rattle.oil_model.proofs.events.own_bits.Given as goal

abbrev pub invariant-loop-attr : goal.invariant-loop-attr
invariant-loop-attr l = own_bits l.bits l.events (drop l.attr-index l.attrs) ≡ own_bits 0 l.events l.attrs
