use Rattle.kernel_guarantees.proofs.Overtaking.{bound_along, none_gets, step_bound}
use Rattle.kernel_guarantees.proofs.scheduling.no_activation_overtakes_an_earlier_one.Goals as goal

pub returns : goal.returns
returns c = record {
  step = λ app s e t u reached ready still ne under. step_bound app t u ne s e reached ready still under;
  along = λ app s es t u reached ready ne under. bound_along app t u ne s es reached ready under;
  none = λ app s es t u reached ready ne under bare. none_gets app t u ne s es reached ready under bare;
}
