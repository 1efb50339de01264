use Rattle.abstract_state.proofs.JoinLaws.{IsJoinSoFar}
use Rattle.abstract_state.proofs.table.ValueSet.join_into.Given as goal

abbrev pub invariant-loop-member : goal.invariant-loop-member
invariant-loop-member l = IsJoinSoFar l.fn.self l.member-items l.member-index l.self l.added l.place
