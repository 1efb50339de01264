-- no task of the priority stands in the places so far
use Rattle.std.proofs.Common.{◌≡◌, ℕ, ◌+◌, drop, Some, None, slice_index_or}
use Rattle.osek_values.specs.Line.{place_in_line}
use Rattle.generic_kernel.proofs.ready.Ready.first_in_line.Given as goal

abbrev pub invariant-loop-task : goal.invariant-loop-task
invariant-loop-task l =
    (u : ℕ) → slice_index_or l.self u None ≡ Some l.highest.priority → place_in_line l.line u ≡ l.task-index + place_in_line (drop l.task-index l.line) u
