use Rattle.table_codec.proofs.RankLaws.{AreRanksUpTo}
use Rattle.table_codec.proofs.ranks.ranks.Given as goal

abbrev pub invariant-loop-rank : goal.invariant-loop-rank
invariant-loop-rank l = AreRanksUpTo l.values l.rank l.ranks.items
