use Rattle.std.proofs.Common.{◌≡◌, ◌≤◌, ◌+◌, drop, length}
use Rattle.osek_standard.{specs.Validity.{due_of}, proofs.DueAlarms.{due_from}}
use Rattle.block_graph.proofs.ticks.routine_size.Given as goal

abbrev pub invariant-loop-alarm : goal.invariant-loop-alarm
invariant-loop-alarm l = record {
  same : l.due + length (due_from l.alarm-index (drop l.alarm-index l.alarms) l.counter) ≡ length (due_of l.alarms l.counter);
  few : l.due ≤ l.alarm-index;
}
