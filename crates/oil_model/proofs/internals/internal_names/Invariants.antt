use Rattle.std.proofs.Common.{◌≡◌, ℕ, List, drop, ◌||◌}
use Rattle.oil_model.specs.{NameSets.{has_name}, Rules.{is_internal_name}}
use Rattle.oil_model.proofs.internals.internal_names.Given as goal

abbrev pub invariant-loop-object : goal.invariant-loop-object
invariant-loop-object l = (n : List ℕ) → (has_name l.names n || is_internal_name (drop l.object-index l.objects) n) ≡ is_internal_name l.objects n
