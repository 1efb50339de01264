use Rattle.kernel_guarantees.proofs.{Reaching.{reached_is_well}, StackChanges.{accepted_gives, accepted_takes, caller_active, held_is_refused, step_changes}}
use Rattle.kernel_guarantees.proofs.resources.stacks_change_by_their_holders_alone.Goals as goal

pub returns : goal.returns
returns c = record {
  changes = λ app s e x reached. step_changes app s x e (reached_is_well app s reached);
  takes = λ app s choice x r reached mine. accepted_takes app s (reached_is_well app s reached) (caller_active x s.processor mine) x mine choice r;
  releases = λ app s choice x r reached mine. accepted_gives app s (reached_is_well app s reached) (caller_active x s.processor mine) x mine choice r;
  refused = λ app s choice x y r reached mine is. held_is_refused app s (reached_is_well app s reached) (caller_active x s.processor mine) x mine choice r is y;
}
