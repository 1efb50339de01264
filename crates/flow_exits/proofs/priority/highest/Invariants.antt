use Rattle.std.proofs.Common.{◌≡◌, drop}
use Rattle.osek_standard.specs.Priority.{highest}
use Rattle.flow_exits.proofs.priority.highest.Given as goal

-- the priority so far, and the ceilings that are left, give the whole
abbrev pub invariant-loop-resource : goal.invariant-loop-resource
invariant-loop-resource l = highest l.app l.priority (drop l.resource-index l.held) ≡ highest l.app l.base l.held
