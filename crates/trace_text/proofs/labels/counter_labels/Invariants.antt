-- the labels so far
use Rattle.std.proofs.Common.{◌≡◌, take, map}
use Rattle.trace_text.specs.Labels.{counter_label}
use Rattle.trace_text.proofs.labels.counter_labels.Given as goal

abbrev pub invariant-loop-counter : goal.invariant-loop-counter
invariant-loop-counter l = l.labels.items ≡ map counter_label (take l.counter-index l.app.counters)
