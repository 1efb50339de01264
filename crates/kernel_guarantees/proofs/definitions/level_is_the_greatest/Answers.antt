use Rattle.kernel_guarantees.proofs.LevelIs.{level_found, level_is}
use Rattle.kernel_guarantees.proofs.definitions.level_is_the_greatest.Goals as goal

pub returns : goal.returns
returns c = record { is = level_is; found = level_found }
