use Rattle.std.proofs.Common.{◌≡◌, ◌≤◌, ◌+◌, ◌*◌, drop, ◌++◌}
use Rattle.block_graph.specs.Apps.{counters_from}
use Rattle.block_graph.proofs.tables.counters.Given as goal

abbrev pub invariant-loop-i : goal.invariant-loop-i
invariant-loop-i l = record {
  same : l.found.items ++ counters_from l.system (drop l.i l.declared-items) l.i l.number ≡ counters_from l.system l.system.counters 0 l.first;
  room : l.number ≤ l.first + 18 * l.i;
}
