use Rattle.std.proofs.Common.{◌≡◌, drop, ◌++◌}
use Rattle.std.specs.Prelude.{map, filter}
use Rattle.oil_model.specs.{Objects.{is_other_mode, name_of}, Systems.{modes}}
use Rattle.oil_model.proofs.modes.mode_names.Given as goal

abbrev pub invariant-loop-object : goal.invariant-loop-object
invariant-loop-object l = l.names.items ++ map name_of (filter is_other_mode (drop l.object-index l.objects)) ≡ modes l.objects
