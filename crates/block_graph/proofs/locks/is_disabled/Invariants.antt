use Rattle.std.proofs.Common.{◌≡◌, drop}
use Rattle.std.specs.List.{list_any}
use Rattle.block_graph.specs.{declared.locks.Opener.TheVariants.{DisableAll}, Locks.{is_opener}}
use Rattle.block_graph.proofs.locks.is_disabled.Given as goal

abbrev pub invariant-loop-opener : goal.invariant-loop-opener
invariant-loop-opener l = list_any (is_opener DisableAll) (drop l.opener-index l.locks) ≡ list_any (is_opener DisableAll) l.locks
