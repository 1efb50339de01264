use Rattle.std.proofs.Common.{◌≡◌, drop}
use Rattle.std.specs.Prelude.{map, filter}
use Rattle.oil_model.specs.{KindRules.{is_violated}, Lines.{sooner, least}, Objects.{line_at, objects_of}}
use Rattle.oil_model.proofs.kind_rules.least_marked.Given as goal

abbrev pub invariant-loop-object : goal.invariant-loop-object
invariant-loop-object l = sooner l.best (least (map (line_at l.attribute) (filter (is_violated l.rule) (objects_of l.kind (drop l.object-index l.objects))))) ≡ least (map (line_at l.attribute) (filter (is_violated l.rule) (objects_of l.kind l.objects)))
