use Rattle.kernel_guarantees.proofs.{Reaching.{reached_is_well}, StackBars.{barred, frees_none}}
use Rattle.kernel_guarantees.proofs.resources.holders_neither_end_nor_wait.Goals as goal

pub returns : goal.returns
returns c = record {
  refused = λ app s choice d r reached runs holding needs extended. barred app s (reached_is_well app s reached) d runs r holding choice needs extended;
  accepted = λ app s choice d reached runs needs fine. frees_none app s (reached_is_well app s reached) d runs choice needs fine;
}
