-- unless the OS object says FALSE
use Rattle.std.proofs.Common.{◌∙◌, ap}
use Rattle.std.specs.Prelude.{codes, not}
use Rattle.oil_model.specs.LookUp.{says}
use Rattle.oil_model.proofs.objects.has_scheduler.Goals as goal

pub returns : goal.returns
returns c = ap not (c.says.ensures ∙ ap (says (codes "USERESSCHEDULER") (codes "FALSE")) c.os_attrs.ensures)
