use Rattle.std.proofs.Common.{rules}
use Rattle.abstract_state.proofs.OrderLaws.{held_order}
use Rattle.abstract_state.proofs.value.stack_order.Goals as goal

pub returns : goal.returns
returns c = search (rules, held_order c.args.held.now c.args.kept.now)
