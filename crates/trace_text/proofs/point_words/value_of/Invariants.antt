-- what is read so far and what the rest adds are the whole, cut off where it is too large
use Rattle.std.proofs.Common.{◌≡◌, ◌≤◌, min, drop}
use Rattle.trace_text.proofs.PointParts.{read_on}
use Rattle.trace_text.proofs.point_words.value_of.Given as goal

abbrev pub invariant-loop-digit : goal.invariant-loop-digit
invariant-loop-digit l = record {
  whole : min (read_on l.value (drop l.digit-index l.digits)) 65535 ≡ min (read_on 0 l.digits) 65535;
  most : l.value ≤ 65535;
}
