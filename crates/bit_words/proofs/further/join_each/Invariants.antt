use Rattle.std.proofs.Common.{◌≡◌, ◌+◌, ◌≤◌, take}
use Rattle.bit_words.specs.Further.{further_count}
use Rattle.bit_words.proofs.FurtherLaws.{AreBitsJoinedUpTo}
use Rattle.bit_words.proofs.further.join_each.Given as goal

abbrev pub invariant-loop-component : goal.invariant-loop-component
invariant-loop-component l =
    AreBitsJoinedUpTo l.initial.more l.other l.component l.more × (further_count l.more ≡ further_count l.initial.more + l.added) × (l.added ≤ further_count (take l.component l.other))
