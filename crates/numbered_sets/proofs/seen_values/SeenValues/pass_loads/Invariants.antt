use Rattle.std.proofs.Common.{◌+◌, ◌-◌, ◌≤◌, ◌<◌, IsTrue}
use Rattle.bit_words.specs.Cursors.{IsBefore}
use Rattle.flow_model.specs.Tests.{updated}
use Rattle.numbered_sets.specs.{Numbers.{has_number}, Made.{AreMade}}
use Rattle.numbered_sets.proofs.seen_values.SeenValues.pass_loads.Given as goal

abbrev pub decreases-loop-number : goal.decreases-loop-number
decreases-loop-number l = l.count - l.number

abbrev pub invariant-loop-number : goal.invariant-loop-number
invariant-loop-number l = record {
  up : l.from ≤ l.number;
  few : l.number ≤ l.count;
  has : l.number < l.count → IsTrue (has_number l.numbers l.number);
  cursor : l.number < l.count → IsBefore l.numbers.bits (l.number + 1) l.cursor;
  made : AreMade (updated l.update) l.self.values l.numbers l.from l.initial.made → AreMade (updated l.update) l.self.values l.numbers l.number l.made;
}
