-- the tasks so far have their levels, and the rest have none
use Rattle.std.proofs.Common.{◌≡◌, ◌<◌, ◌≤◌, ℕ, None, slice_index_or}
use Rattle.generic_kernel.specs.Levels.{level}
use Rattle.generic_kernel.proofs.ready.Ready.of.Given as goal

abbrev pub invariant-loop-task : goal.invariant-loop-task
invariant-loop-task l = record {
  done : (t : ℕ) → t < l.task → slice_index_or l.ready t None ≡ level l.app l.state t;
  rest : (t : ℕ) → l.task ≤ t → slice_index_or l.ready t None ≡ None;
}
