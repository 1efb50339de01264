use Rattle.std.proofs.Common.{◌≡◌, take}
use Rattle.numbered_sets.specs.NumberedEntries.{number_domains, AreFilled}
use Rattle.point_exits.specs.Sifting.{AreSifted}
use Rattle.point_exits.proofs.changes.sift.Given as goal

abbrev pub invariant-loop-condition : goal.invariant-loop-condition
invariant-loop-condition l = record {
  sifted : AreSifted l.initial.pool (take l.condition-index l.conditions) l.initial.entry l.entry;
  alike : number_domains l.entry ≡ number_domains l.initial.entry;
  pool : l.pool ≡ l.initial.pool;
  filled : AreFilled l.entry;
}
