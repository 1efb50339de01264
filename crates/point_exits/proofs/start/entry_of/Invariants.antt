use Rattle.std.proofs.Common.{◌≡◌, map, take}
use Rattle.point_exits.proofs.StartEntry.{set_of}
use Rattle.point_exits.proofs.start.entry_of.Given as goal

abbrev pub invariant-loop-component : goal.invariant-loop-component
invariant-loop-component l = l.sets.items ≡ map (set_of l.app l.state) (take l.component-index l.component-items)
