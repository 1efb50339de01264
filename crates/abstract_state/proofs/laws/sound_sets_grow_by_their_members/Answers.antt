use Rattle.abstract_state.proofs.{JoinLaws.{no_longer, no_other, join_part}, SoundSets.{sound_part}}
use Rattle.abstract_state.proofs.laws.sound_sets_grow_by_their_members.Goals as goal

pub returns : goal.returns
returns c = record {
  fewer = λ a b sound. no_longer a.members b.members sound.ascending;
  same = λ a b sound other. no_other a.members b.members sound.ascending;
  joins = λ a b x sound other alike join. sound_part a b x sound other alike (join_part a b x join);
}
