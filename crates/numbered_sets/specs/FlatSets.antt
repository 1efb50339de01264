-- Sets of numbers in flat words: for each component a word in a list, and a second one and further words where it needs them.
use Rattle.std.specs.Prelude.{ℕ, List, [], ◌∷◌, drop, slice_index_or}
use Rattle.bit_words.specs.{Words.{bits_of_words}, Further.{further_at}}
use Rattle.abstract_state.specs.declared.value.Domain.{Domain}
use Rattle.numbered_sets.specs.Numbers.{Numbers, numbers}

-- all words of a component
abbrev pub words_at : List ℕ → List ℕ → List (List ℕ) → ℕ → List ℕ
words_at low high more c = slice_index_or low c 0 ∷ slice_index_or high c 0 ∷ further_at more c

-- For each component the set of the numbers whose bits its words have.
unfoldable pub flat_sets : List Domain → List ℕ → List ℕ → List (List ℕ) → List Numbers
flat_sets [] low high more = []
flat_sets (d ∷ ds) low high more = numbers d (bits_of_words (words_at low high more 0)) ∷ flat_sets ds (drop 1 low) (drop 1 high) (drop 1 more)
