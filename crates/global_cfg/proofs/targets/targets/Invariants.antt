use Rattle.std.proofs.Common.{[], take}
use Rattle.global_cfg.specs.Targets.{AreEndsPut}
use Rattle.global_cfg.proofs.targets.targets.Given as goal

abbrev pub invariant-loop-exit : goal.invariant-loop-exit
invariant-loop-exit l = AreEndsPut l.from (take l.exit-index l.exits) [] l.targets.items
