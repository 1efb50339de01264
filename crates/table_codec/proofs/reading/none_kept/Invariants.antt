use Rattle.table_codec.specs.Kept.{AreNoneKept}
use Rattle.table_codec.proofs.reading.none_kept.Given as goal

abbrev pub invariant-loop : goal.invariant-loop
invariant-loop l = AreNoneKept l.counter l.kept
