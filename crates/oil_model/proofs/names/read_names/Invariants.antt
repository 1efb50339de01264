use Rattle.std.proofs.Common.{ℕ, ◌<◌, IsTrue, get_or}
use Rattle.osek_values.specs.Names.{is_name}
use Rattle.oil_tree.specs.declared.tree.Object.{Object}
use Rattle.oil_model.proofs.names.read_names.Given as goal

abbrev pub invariant-loop-object : goal.invariant-loop-object
invariant-loop-object l = (k : ℕ) (d : Object) → k < l.object-index → IsTrue (is_name (get_or l.objects k d).name)
