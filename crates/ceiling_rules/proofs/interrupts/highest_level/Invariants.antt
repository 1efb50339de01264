-- the level so far, and the interrupt ceilings that are left, give the whole
use Rattle.std.proofs.Common.{◌≡◌, drop}
use Rattle.osek_standard.specs.Levels.{highest_level}
use Rattle.ceiling_rules.proofs.interrupts.highest_level.Given as goal

abbrev pub invariant-loop-resource : goal.invariant-loop-resource
invariant-loop-resource l =
    highest_level l.app l.level (drop l.resource-index l.resources) ≡ highest_level l.app l.own l.resources
