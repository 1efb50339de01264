use Rattle.abstract_state.specs.Tables.{set_at}
use Rattle.abstract_state.proofs.{JoinLaws.{part_joined}, EntryJoins.{entry_join_one}}
use Rattle.abstract_state.proofs.laws.entries_join_set_by_set.Goals as goal

pub returns : goal.returns
returns c = record {
  one = entry_join_one;
  before = λ a b p k part. (part.each k).keeps;
  after = λ a b p x k part join. part_joined (set_at a k) (set_at b k) (set_at p k) (set_at x k) (part.each k) (join.each k);
}
