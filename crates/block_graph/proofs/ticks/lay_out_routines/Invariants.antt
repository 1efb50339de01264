use Rattle.std.proofs.Common.{◌≡◌, ◌≤◌, ◌+◌, ◌*◌, ◌++◌, drop}
use Rattle.block_graph.specs.Blocks.{routines}
use Rattle.block_graph.proofs.ticks.lay_out_routines.Given as goal

abbrev pub invariant-loop-counter : goal.invariant-loop-counter
invariant-loop-counter l = record {
  same : l.blocks.items ++ routines l.system (drop l.counter l.system.counters) l.counter l.number ≡ l.initial.blocks.items ++ routines l.system l.system.counters 0 l.first;
  room : l.number ≤ l.first + 18 * l.counter;
}
