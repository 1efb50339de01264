-- the labels so far
use Rattle.std.proofs.Common.{◌≡◌, take, map}
use Rattle.trace_text.specs.Labels.{resource_label}
use Rattle.trace_text.proofs.labels.resource_labels.Given as goal

abbrev pub invariant-loop-resource : goal.invariant-loop-resource
invariant-loop-resource l = l.labels.items ≡ map resource_label (take l.resource-index l.app.resources)
