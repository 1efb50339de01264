use Rattle.std.proofs.Common.{◌+◌, ◌-◌, ◌≤◌, ◌<◌, IsTrue}
use Rattle.bit_words.specs.Cursors.{IsBefore}
use Rattle.flow_model.specs.Runners.{component_of}
use Rattle.numbered_sets.specs.{Numbers.{has_number}, NumberedEntries.{numbers_at}}
use Rattle.point_exits.proofs.BlockLaws.{AreBlocksBelow}
use Rattle.point_exits.proofs.group.at_blocks.Given as goal

abbrev pub decreases-loop-number : goal.decreases-loop-number
decreases-loop-number l = l.count - l.number

abbrev pub invariant-loop-number : goal.invariant-loop-number
invariant-loop-number l = record {
  ends : AreBlocksBelow l.pool l.entry l.runner l.number l.ends.items;
  few : l.number ≤ l.count;
  has : l.number < l.count → IsTrue (has_number (numbers_at l.entry (component_of l.runner)) l.number);
  cursor : l.number < l.count → IsBefore (numbers_at l.entry l.component).bits (l.number + 1) l.cursor;
}
