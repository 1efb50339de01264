use Rattle.std.proofs.Common.{◌≡◌, length}
use Rattle.abstract_state.specs.{declared.table.PlainEntry.{PlainEntry}, Components.{component_count}}
use Rattle.table_codec.specs.Kept.{AreKept, sets_or}
use Rattle.table_codec.proofs.{KeptSets.{AreKeptSoFar}, ReadSoFar.{AreSetsSoFar}}
use Rattle.table_codec.proofs.entries.entry.Given as goal

abbrev pub invariant-loop-component : goal.invariant-loop-component
invariant-loop-component l = record {
  size : length l.sets ≡ l.component;
  many : length l.kept ≡ component_count l.app;
  read : (before : PlainEntry) → AreKept l.app before l.fn.kept → AreSetsSoFar l.app l.point l.fn.reader (sets_or before 0 l.sets) l.reader;
  kept : (before : PlainEntry) → AreKept l.app before l.fn.kept → AreKeptSoFar l.app before l.sets l.kept;
}
