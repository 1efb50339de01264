use Rattle.std.proofs.Common.{◌≡◌, ◌++◌, ◌-◌, ◌≤◌, ◌<◌, IsTrue}
use Rattle.std.specs.List.{flat_map, AllByRecursion}
use Rattle.numbered_sets.specs.Numbers.{has_number}
use Rattle.table_codec.specs.{Ranks.{only_values, values_ranked}, Spelling.{value_bytes}, Writing.{CanBeWritten}}
use Rattle.table_codec.proofs.RankedWriting.{values_left}
use Rattle.table_codec.proofs.writing.put_values.Given as goal

abbrev pub decreases-loop-rank : goal.decreases-loop-rank
decreases-loop-rank l = l.count - l.rank

abbrev pub invariant-loop-rank : goal.invariant-loop-rank
invariant-loop-rank l = record {
  are : l.out.items ++ flat_map value_bytes (values_left (only_values l.values) (has_number l.ranks) l.rank) ≡ l.fn.out.items ++ flat_map value_bytes (values_ranked l.ranks l.values);
  written : AllByRecursion CanBeWritten (values_left (only_values l.values) (has_number l.ranks) l.rank);
  few : l.rank ≤ l.count;
  there : l.rank < l.count → IsTrue (has_number l.ranks l.rank);
}
