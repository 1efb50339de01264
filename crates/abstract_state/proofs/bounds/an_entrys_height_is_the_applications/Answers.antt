use Rattle.abstract_state.proofs.HeightLaws.{entry_height_is, height_few}
use Rattle.abstract_state.proofs.bounds.an_entrys_height_is_the_applications.Goals as goal

pub returns : goal.returns
returns c = record { height = entry_height_is; few = height_few }
