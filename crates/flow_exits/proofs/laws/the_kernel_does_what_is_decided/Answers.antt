use Rattle.flow_exits.proofs.KernelDecides.{choice_decided, each_decided}
use Rattle.flow_exits.proofs.laws.the_kernel_does_what_is_decided.Goals as goal

pub returns : goal.returns
returns c = record { some = choice_decided; each = each_decided }
