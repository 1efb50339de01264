use Rattle.std.proofs.Common.{◌-◌, ◌≤◌, ◌<◌, IsTrue}
use Rattle.numbered_sets.specs.{Numbers.{has_number}, SetLists.{set_of}}
use Rattle.table_codec.proofs.RankLaws.{AreRankedUpTo}
use Rattle.table_codec.proofs.ranks.RankedValues.ranks_in.Given as goal

abbrev pub decreases-loop-number : goal.decreases-loop-number
decreases-loop-number l = l.end - l.number

abbrev pub invariant-loop-number : goal.invariant-loop-number
invariant-loop-number l =
    AreRankedUpTo (set_of l.sets l.component) l.self l.number l.ranks l.count × (l.number ≤ l.end) × (l.number < l.end → IsTrue (has_number (set_of l.sets l.component) l.number))
