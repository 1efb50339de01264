use Rattle.std.proofs.Common.{◌≡◌, drop}
use Rattle.std.specs.Prelude.{codes}
use Rattle.oil_model.specs.Objects.{explicit_bits, objects_of}
use Rattle.oil_model.proofs.masks.explicit_bits.Given as goal

abbrev pub invariant-loop-object : goal.invariant-loop-object
invariant-loop-object l = explicit_bits l.used (objects_of (codes "EVENT") (drop l.object-index l.objects)) ≡ explicit_bits 0 (objects_of (codes "EVENT") l.objects)
