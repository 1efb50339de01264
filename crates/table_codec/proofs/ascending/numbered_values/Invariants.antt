use Rattle.std.proofs.Common.{◌≡◌, take}
use Rattle.numbered_sets.specs.Pools.{values_at}
use Rattle.table_codec.specs.Ascending.{numbered_from}
use Rattle.table_codec.proofs.ascending.numbered_values.Given as goal

abbrev pub invariant-loop-number : goal.invariant-loop-number
invariant-loop-number l = l.all.items ≡ numbered_from 0 (take l.number (values_at l.pool l.component))
