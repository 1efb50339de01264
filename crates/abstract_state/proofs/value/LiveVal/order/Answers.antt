use Rattle.std.proofs.Common.{rules}
use Rattle.abstract_state.proofs.OrderLaws.{flag_order}
use Rattle.abstract_state.proofs.value.LiveVal.order.Goals as goal

pub returns : goal.returns
returns c = search (rules, flag_order c.args.self.now.inside c.args.other.now.inside)
