use Rattle.image_model.proofs.UpgradedRuns.{runs_as_before}
use Rattle.image_model.proofs.laws.the_upgraded_runs_as_before.Goals as goal

pub returns : goal.returns
returns c = λ i j mode es u. runs_as_before i j u mode es
