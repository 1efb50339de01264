-- the count, unless an earlier owner has one of the blocks
use Rattle.std.proofs.Common.{rules}
use Rattle.image_fields.specs.Reading.{count_at}
use Rattle.image_fields.proofs.ranges.own_count.Goals as goal

pub returns-then-meets_owner : goal.returns-then-meets_owner
unfolding count_at
returns-then-meets_owner c = search rules

pub returns : goal.returns
unfolding count_at
returns c = search rules
