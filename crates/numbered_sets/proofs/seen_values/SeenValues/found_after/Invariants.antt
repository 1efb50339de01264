use Rattle.std.proofs.Common.{◌-◌, ◌≤◌, ◌<◌, length, IsTrue}
use Rattle.flow_model.specs.Tests.{updated}
use Rattle.numbered_sets.specs.{Numbers.{has_number}, Made.{AreMade}}
use Rattle.numbered_sets.proofs.seen_values.SeenValues.found_after.Given as goal

abbrev pub decreases-loop-number : goal.decreases-loop-number
decreases-loop-number l = l.count - l.number

abbrev pub invariant-loop-number : goal.invariant-loop-number
invariant-loop-number l = record {
  few : l.number ≤ length l.self.values;
  has : l.number < length l.self.values → IsTrue (has_number l.numbers l.number);
  made : AreMade (updated l.update) l.self.values l.numbers l.number l.made;
}
