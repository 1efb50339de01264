use Rattle.block_graph.proofs.FollowsLocks.{follow}
use Rattle.block_graph.proofs.laws.locks_follow.Goals as goal

pub returns : goal.returns
returns c = follow
