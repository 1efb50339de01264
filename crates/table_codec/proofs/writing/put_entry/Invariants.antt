use Rattle.std.proofs.Common.{◌≡◌, ◌++◌, drop}
use Rattle.table_codec.specs.{Spelling.{sets_bytes}, Writing.{all_in}}
use Rattle.table_codec.proofs.writing.put_entry.Given as goal

abbrev pub invariant-loop-place : goal.invariant-loop-place
invariant-loop-place l = l.out.items ++ sets_bytes (drop l.place l.components) (drop l.place (all_in l.sets l.values)) ≡ l.fn.out.items ++ sets_bytes l.components (all_in l.sets l.values)
