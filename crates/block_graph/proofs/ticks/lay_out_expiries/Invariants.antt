use Rattle.std.proofs.Common.{◌≡◌, ◌≤◌, ◌+◌, ◌++◌, drop}
use Rattle.osek_standard.{specs.Validity.{due_of}, proofs.DueAlarms.{due_from}}
use Rattle.block_graph.specs.Blocks.{expiries}
use Rattle.block_graph.proofs.ticks.lay_out_expiries.Given as goal

abbrev pub invariant-loop-i : goal.invariant-loop-i
invariant-loop-i l = record {
  same : l.blocks.items ++ expiries (due_from l.i (drop l.i l.alarms) l.counter) l.number ≡ l.initial.blocks.items ++ expiries (due_of l.alarms l.counter) l.first;
  room : l.number ≤ l.first + l.i;
}
