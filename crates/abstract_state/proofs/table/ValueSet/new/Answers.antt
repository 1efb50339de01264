use Rattle.std.proofs.Common.{sym, subst}
use Rattle.abstract_state.specs.ValueOrder.{IsAscending}
use Rattle.abstract_state.proofs.OrderLaws.{ascending_none}
use Rattle.abstract_state.proofs.table.ValueSet.new.Goals as goal

pub returns-clause-ascending : goal.returns-clause-ascending
returns-clause-ascending c = subst IsAscending (sym c.new.ensures) ascending_none
