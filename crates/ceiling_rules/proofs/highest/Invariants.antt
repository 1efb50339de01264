-- the priority so far, and the ceilings that are left, give the whole
use Rattle.std.proofs.Common.{◌≡◌, drop}
use Rattle.osek_standard.specs.Priority.{highest}
use Rattle.ceiling_rules.proofs.highest.Given as goal

abbrev pub invariant-loop-resource : goal.invariant-loop-resource
invariant-loop-resource l =
    highest l.app l.priority (drop l.resource-index l.resources) ≡ highest l.app l.base l.resources
