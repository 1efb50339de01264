use Rattle.std.proofs.Common.{◌≡◌, ℕ, List, drop, ◌||◌}
use Rattle.oil_model.specs.{NameSets.{has_name}, Objects.{declares}}
use Rattle.oil_model.proofs.references.names_of.Given as goal

abbrev pub invariant-loop-object : goal.invariant-loop-object
invariant-loop-object l = (n : List ℕ) → (has_name l.names n || declares l.kind n (drop l.object-index l.objects)) ≡ declares l.kind n l.objects
