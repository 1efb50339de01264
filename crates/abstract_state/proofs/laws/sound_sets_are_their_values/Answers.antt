use Rattle.abstract_state.proofs.{JoinLaws.{equal_sets}, LatticeLaws.{equal_entries}}
use Rattle.abstract_state.proofs.laws.sound_sets_are_their_values.Goals as goal

pub returns : goal.returns
returns c = record { sets = λ a b sound other. equal_sets a b sound.ascending other.ascending; entries = equal_entries }
