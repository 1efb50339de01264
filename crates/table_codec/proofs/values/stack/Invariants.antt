use Rattle.table_codec.proofs.StackReads.{IsStackSoFar}
use Rattle.table_codec.proofs.values.stack.Given as goal

abbrev pub invariant-loop : goal.invariant-loop
invariant-loop l = IsStackSoFar l.app l.fn.reader l.counter l.held l.reader
