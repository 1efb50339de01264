use Rattle.std.proofs.Common.{◌≡◌, drop}
use Rattle.std.specs.{List.{list_any}, Str.{bytes_eq}}
use Rattle.block_graph.proofs.calls.has_name.Given as goal

abbrev pub invariant-loop-one : goal.invariant-loop-one
invariant-loop-one l = list_any (bytes_eq l.name) (drop l.one-index l.names) ≡ list_any (bytes_eq l.name) l.names
