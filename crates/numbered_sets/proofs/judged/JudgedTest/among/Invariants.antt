use Rattle.std.proofs.Common.{◌+◌, ◌-◌, ◌≤◌, ◌<◌, IsTrue}
use Rattle.bit_words.specs.Cursors.{IsBefore}
use Rattle.numbered_sets.specs.{Numbers.{has_number}, NumberedEntries.{numbers_at}}
use Rattle.numbered_sets.proofs.SiftLaws.{ArePassingBelow}
use Rattle.numbered_sets.proofs.judged.JudgedTest.among.Given as goal

abbrev pub decreases-loop-number : goal.decreases-loop-number
decreases-loop-number l = l.values - l.number

abbrev pub invariant-loop-number : goal.invariant-loop-number
invariant-loop-number l =
    let set = numbers_at l.entry l.component in
    record {
      few : l.number ≤ l.values;
      has : l.number < l.values → IsTrue (has_number set l.number);
      cursor : l.number < l.values → IsBefore set.bits (l.number + 1) l.cursor;
      passing : ArePassingBelow l.seen.values l.self.test set l.passing l.number;
    }
