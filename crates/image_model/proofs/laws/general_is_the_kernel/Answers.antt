use Rattle.image_model.proofs.GeneralRuns.{general_runs}
use Rattle.image_model.proofs.laws.general_is_the_kernel.Goals as goal

pub returns : goal.returns
returns c = general_runs
