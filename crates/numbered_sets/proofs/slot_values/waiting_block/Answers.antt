use Rattle.std.proofs.Common.{arith}
use Rattle.numbered_sets.proofs.TaskSlots.{waits_in_slot}
use Rattle.numbered_sets.proofs.slot_values.waiting_block.Goals as goal

pub returns : goal.returns
returns c = λ loads. waits_in_slot c.args.first.0 c.args.count c.args.slot loads _ (omega arith) (omega arith) (omega arith)
