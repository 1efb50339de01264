use Rattle.std.proofs.Common.{◌≡◌, false, drop}
use Rattle.std.specs.Prelude.{codes, map, if◌then◌else◌, None}
use Rattle.oil_model.specs.{Lines.{sooner, least}, Objects.{object_line, objects_of}, Rules.{os_lines}}
use Rattle.oil_model.proofs.object_rules.os_fault.Given as goal

abbrev pub invariant-loop-object : goal.invariant-loop-object
invariant-loop-object l = (if l.seen then sooner l.best (least (map object_line (objects_of (codes "OS") (drop l.object-index l.objects)))) else least (os_lines l.cpu (objects_of (codes "OS") (drop l.object-index l.objects)))) ≡ least (os_lines l.cpu (objects_of (codes "OS") l.objects)) × (l.seen ≡ false → l.best ≡ None)
