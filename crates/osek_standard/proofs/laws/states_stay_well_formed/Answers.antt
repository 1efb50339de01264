use Rattle.osek_standard.proofs.{EffectKeeps.{effect_keeps}, StepKeeps.{start_is_well, step_keeps}}
use Rattle.osek_standard.proofs.laws.states_stay_well_formed.Goals as goal

pub returns : goal.returns
returns c = record {
  start = start_is_well;
  effect = λ app s choice w. effect_keeps app s w choice;
  step = step_keeps;
}
