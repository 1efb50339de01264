use Rattle.kernel_guarantees.specs.Resources.{OfTask}
use Rattle.kernel_guarantees.proofs.{Ceilings.{ceilings_apart, held_occupies, keeps_processor, only_above}, HeldOnce.{reached_is_ceiled}, Settling.{reached_is_settled}, StackedSteps.{reached_is_stacked}}
use Rattle.kernel_guarantees.proofs.resources.ceilings_keep_apart.Goals as goal

pub returns : goal.returns
returns c = record {
  held = λ app s t u r q reached ne h k.
      let low = reached_is_ceiled app s reached in
      ceilings_apart app s (reached_is_stacked app s reached) t u r q ne (held_occupies app s t r h) (held_occupies app s u q k) (low (OfTask t) r h) (low (OfTask u) q k);
  runs = λ app s d u r reached. only_above app s (reached_is_stacked app s reached) d u r;
  scheduler = λ app s u r reached going has top. keeps_processor app s (reached_is_stacked app s reached) (reached_is_settled app s reached) going u r has top;
}
