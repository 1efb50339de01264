-- what is written, and the lines that are left, are the whole
use Rattle.std.proofs.Common.{◌≡◌, ◌-◌, ◌*◌}
use Rattle.osek_vectors.specs.{Writing.{onto, each_from}, EventLines.{event_line, event_text}}
use Rattle.osek_vectors.proofs.events.put_events.Given as goal

abbrev pub invariant-loop-line : goal.invariant-loop-line
invariant-loop-line l = onto l.writer (each_from l._line (1000 * l.tasks - l._line) (λ _. event_line)) ≡ onto l.initial.writer (event_text l.tasks)
