use Rattle.std.proofs.Common.{◌≡◌, take, sum_by}
use Rattle.numbered_sets.specs.Numbers.{number_count}
use Rattle.numbered_sets.proofs.counts.count_entry.Given as goal

abbrev pub invariant-loop-component : goal.invariant-loop-component
invariant-loop-component l = l.found ≡ sum_by number_count (take l.component l.entry.sets)
