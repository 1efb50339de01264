use Rattle.std.proofs.Common.{◌≡◌, drop}
use Rattle.std.specs.Prelude.{codes}
use Rattle.oil_model.specs.{Objects.{explicit, explicit_at}, LookUp.{first_named}}
use Rattle.oil_model.proofs.masks.explicit.Given as goal

abbrev pub invariant-loop-attr : goal.invariant-loop-attr
invariant-loop-attr l = explicit_at (first_named (codes "MASK") (drop l.attr-index l.attr-items)) ≡ explicit l.event
