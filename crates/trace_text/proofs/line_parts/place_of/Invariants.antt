-- the sizes so far
use Rattle.std.proofs.Common.{◌≡◌}
use Rattle.trace_text.specs.LineParts.{kept_place}
use Rattle.trace_text.proofs.line_parts.place_of.Given as goal

abbrev pub invariant-loop-before : goal.invariant-loop-before
invariant-loop-before l = l.place ≡ kept_place l.kept l.before
