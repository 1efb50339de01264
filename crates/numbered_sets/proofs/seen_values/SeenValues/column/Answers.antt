use Rattle.std.proofs.Common.{subst}
use Rattle.std.specs.Prelude.{IfSome}
use Rattle.numbered_sets.specs.{Pools.{Values}, Slots.{IsBlockColumn}}
use Rattle.numbered_sets.proofs.seen_values.SeenValues.column.Goals as goal

pub returns-clause-column : goal.returns-clause-column
returns-clause-column c = subst (λ (x : Values). IfSome c.block_column.result (IsBlockColumn x.domain)) c.self.view_is c.block_column.ensures.column
