use Rattle.kernel_guarantees.proofs.{Letters.{few_activations, step_moves, waits_extended}, Reaching.{reached_is_well}}
use Rattle.kernel_guarantees.proofs.tasks.tasks_move_by_the_model.Goals as goal

pub returns : goal.returns
returns c = record {
  moves = λ app s e t reached. step_moves app s (reached_is_well app s reached) e t;
  waits = λ app s t b reached. waits_extended app s (reached_is_well app s reached) t b;
  activations = λ app s t x reached live. few_activations app s (reached_is_well app s reached) t x live;
}
