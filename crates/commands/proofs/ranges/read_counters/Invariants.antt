use Rattle.std.proofs.Common.{ℕ, ◌<◌, ◌^◌, get_or}
use Rattle.osek_standard.specs.declared.objects.Counter.{Counter}
use Rattle.commands.proofs.ranges.read_counters.Given as goal

abbrev pub invariant-loop-counter : goal.invariant-loop-counter
invariant-loop-counter l = (k : ℕ) (d : Counter) → k < l.counter-index → (get_or l.counters k d).max < 2 ^ 32
