use Rattle.std.proofs.lemmas.Map.Keys.{IsDistinct-from_sorted}
use Rattle.abstract_state.specs.ValueOrder.{part_order}
use Rattle.abstract_state.proofs.JoinLaws.{join_one, join_left, join_right, join_part, part_least, part_joined, none_new}
use Rattle.abstract_state.proofs.laws.the_join_is_the_least_set_above_both.Goals as goal

pub returns : goal.returns
returns c = record {
  one = join_one;
  left = join_left;
  right = join_right;
  least = λ a b x c join. part_least a b x c (join_part a b x join);
  before = λ a b p part. part.keeps;
  after = part_joined;
  same = none_new;
  distinct = λ a b x join. IsDistinct-from_sorted part_order x.members join.ascending;
}
