-- Words for each of several components.
use Rattle.std.specs.Prelude.{◌≡◌, ◌≢◌, ℕ, List, [], length, slice_index_or, sum_by, count_ones}
use Rattle.bit_words.specs.Words.{bits_of_words}

-- the words of a component past its first two, of which the last components have none
abbrev pub further_at : List (List ℕ) → ℕ → List ℕ
further_at more c = slice_index_or more c []

abbrev pub further_bits : List (List ℕ) → ℕ → ℕ
further_bits more c = bits_of_words (further_at more c)

-- how many of their bits are set
abbrev pub further_count : List (List ℕ) → ℕ
further_count more = sum_by (λ (ws : List ℕ). count_ones (bits_of_words ws)) more

-- the further words of other components are what they were
pub record IsChangedAt (before : List (List ℕ)) (c : ℕ) (after : List (List ℕ)) : Type 0 where
  pub as_many : length after ≡ length before
  pub others : (k : ℕ) → k ≢ c → further_at after k ≡ further_at before k
