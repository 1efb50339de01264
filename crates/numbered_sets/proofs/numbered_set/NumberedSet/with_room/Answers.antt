use Rattle.std.proofs.Common.{ℕ, List, ◌∷◌, ap}
use Rattle.bit_words.specs.Words.{bits_of_words}
use Rattle.numbered_sets.specs.Numbers.{numbers}
use Rattle.numbered_sets.proofs.numbered_set.NumberedSet.with_room.Goals as goal

pub returns : goal.returns
unfolding bits_of_words
returns c = ap (λ (more : List ℕ). numbers c.args.domain (bits_of_words (0 ∷ 0 ∷ more))) c.in_ok-more.ensures.items
