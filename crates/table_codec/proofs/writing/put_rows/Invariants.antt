use Rattle.std.proofs.Common.{◌≡◌, ◌≤◌, ◌++◌, drop, length}
use Rattle.table_codec.specs.Writing.{merged_bytes}
use Rattle.table_codec.proofs.writing.put_rows.Given as goal

abbrev pub invariant-loop-place : goal.invariant-loop-place
invariant-loop-place l = record {
  known : l.next ≤ length l.rows;
  are : l.out.items ++ merged_bytes l.components l.values (drop l.place l.points) (drop l.next l.rows) ≡ l.fn.out.items ++ merged_bytes l.components l.values l.points l.rows;
}
