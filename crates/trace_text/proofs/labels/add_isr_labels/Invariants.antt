-- the labels so far
use Rattle.std.proofs.Common.{◌≡◌, ◌++◌, take, map}
use Rattle.trace_text.specs.Labels.{isr_label}
use Rattle.trace_text.proofs.labels.add_isr_labels.Given as goal

abbrev pub invariant-loop-isr : goal.invariant-loop-isr
invariant-loop-isr l = l.labels.items ≡ l.fn.labels.items ++ map isr_label (take l.isr-index l.app.isrs)
