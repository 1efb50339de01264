use Rattle.std.proofs.Common.{arith, get_or}
use Rattle.table_codec.proofs.RankLaws.{rank_there, rank_put, all_ranked}
use Rattle.table_codec.proofs.ranks.ranks.Goals as goal

pub index_mut-requires : goal.index_mut-requires
index_mut-requires c =
    let rank = c.loop-rank.rank in
    let n = (get_or c.args.values.now rank c.index-values-rank.result).number in
    let is = rank_there c.args.values.now rank c.index-values-rank.result (omega (arith, c.loop-rank-test.true)) in
    omega (arith, c.requires.below n rank is, c.loop-rank.invariant.as_many)

pub loop-rank-preserved : goal.loop-rank-preserved
loop-rank-preserved c =
    let rank = c.loop-rank.rank in
    let n = (get_or c.args.values.now rank c.index-values-rank.result).number in
    rank_put c.args.values.now c.requires rank n c.loop-rank.ranks.items (rank_there c.args.values.now rank c.index-values-rank.result (omega (arith, c.loop-rank-test.true))) c.loop-rank.invariant

pub returns : goal.returns
returns c = all_ranked c.args.values.now c.requires c.loop-rank.rank c.loop-rank.ranks.items (omega (arith, c.loop-rank-test.false)) c.loop-rank.invariant
