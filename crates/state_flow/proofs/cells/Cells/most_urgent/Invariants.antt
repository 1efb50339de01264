use Rattle.std.proofs.Common.{◌≡◌}
use Rattle.state_flow.proofs.cells.Cells.most_urgent.Given as goal

abbrev pub invariant-loop-point : goal.invariant-loop-point
invariant-loop-point g l = l.self.list.items ≡ l.initial.self.list.items
