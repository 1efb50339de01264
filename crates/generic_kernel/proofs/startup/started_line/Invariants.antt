-- the autostarted tasks so far
use Rattle.std.proofs.Common.{◌≡◌, ◌≤◌, length, map}
use Rattle.std.specs.List.{filter, range_with_len}
use Rattle.osek_values.specs.{Numbers.{task_no}, Bits.{has_bit}}
use Rattle.osek_standard.specs.Apps.{the_task}
use Rattle.generic_kernel.proofs.startup.started_line.Given as goal

abbrev pub invariant-loop-task : goal.invariant-loop-task
invariant-loop-task l = record {
  line : l.line ≡ map task_no (filter (λ t. has_bit (the_task l.app t).autostart l.mode.0) (range_with_len 0 l.task));
  few : length l.line ≤ l.task;
}
