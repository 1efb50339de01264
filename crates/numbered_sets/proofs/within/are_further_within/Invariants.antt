use Rattle.std.proofs.Common.{◌≡◌, ℕ, ◌<◌}
use Rattle.bit_words.specs.Further.{further_bits}
use Rattle.numbered_sets.specs.Within.{bits_beside}
use Rattle.numbered_sets.proofs.within.are_further_within.Given as goal

abbrev pub invariant-loop-component : goal.invariant-loop-component
invariant-loop-component l = (k : ℕ) → k < l.component → bits_beside (further_bits l.more k) (further_bits l.other k) ≡ 0
