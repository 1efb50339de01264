-- Lists in the order of their keys: where an element stands, and where one belongs.
use Rattle.std.specs.Prelude.{◌≡◌, ℕ, ◌<◌, ◌≤◌, List, length, slice_index_or}

module _ {X : Type 0} (key : X → ℕ) where
  -- in the order of their keys, no key twice
  pub record AscendBy (xs : List X) : Type 0 where
    pub before : (i j : ℕ) (d : X) → i < j → j < length xs → key (slice_index_or xs i d) < key (slice_index_or xs j d)

  -- an element with this key stands there
  pub record IsPlaceBy (xs : List X) (n place : ℕ) : Type 0 where
    pub known : place < length xs
    pub is : (d : X) → key (slice_index_or xs place d) ≡ n

  -- no element has this key, and one that has it belongs there
  pub record IsGapBy (xs : List X) (n gap : ℕ) : Type 0 where
    pub known : gap ≤ length xs
    pub below : (k : ℕ) (d : X) → k < gap → key (slice_index_or xs k d) < n
    pub above : (k : ℕ) (d : X) → gap ≤ k → k < length xs → n < key (slice_index_or xs k d)
