use Rattle.std.proofs.Common.{arith}
use Rattle.kernel_guarantees.proofs.{AccountedSteps.{counts_along, start_counts, step_counts}, Reaching.{start_is_reached}}
use Rattle.kernel_guarantees.proofs.activations.no_activation_is_lost.Goals as goal

pub returns : goal.returns
returns c = record {
  step = λ app s e t reached. step_counts app s e t reached;
  along = λ app s es t reached. counts_along app s es t reached;
  run = λ app mode es t known declared. omega (arith, counts_along app _ es t (start_is_reached app mode known), start_counts app mode t declared);
}
