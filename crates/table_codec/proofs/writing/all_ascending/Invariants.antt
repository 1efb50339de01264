use Rattle.table_codec.specs.Writing.{AreOrdered}
use Rattle.table_codec.proofs.writing.all_ascending.Given as goal

abbrev pub invariant-loop-component : goal.invariant-loop-component
invariant-loop-component l = AreOrdered l.pool l.component l.values
