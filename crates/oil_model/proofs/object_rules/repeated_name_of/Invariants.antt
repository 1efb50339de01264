use Rattle.std.proofs.Common.{◌≡◌, ℕ, List, drop}
use Rattle.std.specs.{Prelude.{map}, List.{list_any}}
use Rattle.oil_tree.specs.declared.tree.Object.{Object}
use Rattle.oil_model.specs.{Lines.{sooner, least}, NameSets.{has_name}, Objects.{is_called, object_line, objects_of}, Rules.{repeated, has_same_name, repeated_names}}
use Rattle.oil_model.proofs.object_rules.repeated_name_of.Given as goal

abbrev pub invariant-loop-object : goal.invariant-loop-object
invariant-loop-object l = (before : List Object) × ((n : List ℕ) → has_name l.seen n ≡ list_any (is_called n) before) × (sooner l.best (least (map object_line (repeated has_same_name before (objects_of l.kind (drop l.object-index l.objects))))) ≡ least (repeated_names l.kind l.objects))
