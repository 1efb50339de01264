-- Points that were reached, with what is known of each, in the order of the points.
use Rattle.std.specs.Prelude.{◌≡◌, ◌⊎◌, ℕ, ◌+◌, ◌<◌, ◌≤◌, true, false, Some, None, List, length, slice_index_or, sum_by, if◌then◌else◌, Contains}
use Rattle.osek_standard.specs.{declared.point.Point.{Point}, Points.{point_number}}
use Rattle.table_rows.specs.{declared.bare.BareExit.{BareExit}, Order.{AscendBy}}
use Rattle.state_flow.specs.declared.cells.Cell.{Cell}

module _ {E : Type 0} where
  abbrev pub cell_number : Cell E → ℕ
  cell_number cell = point_number cell.point

  -- that of a point that was reached just now: it waits, and wasn't evaluated yet
  abbrev pub reached_cell : Point → E → Cell E
  reached_cell point entry = record { point = point; number = point_number point; waiting = true; entry = entry; before = None; exits = None; growth = tt }

  -- in the order of their points, none twice, and each tells its point's number
  pub record AreCellsInOrder (cells : List (Cell E)) : Type 0 where
    pub told : (k : ℕ) (d : Cell E) → k < length cells → (slice_index_or cells k d).number ≡ cell_number (slice_index_or cells k d)
    pub ascend : AscendBy cell_number cells

  pub record IsWaitingCell (cells : List (Cell E)) (place : ℕ) : Type 0 where
    pub known : place < length cells
    pub waits : (d : Cell E) → (slice_index_or cells place d).waiting ≡ true

  -- no cell before a place waits
  abbrev pub NoneWaitsBefore : List (Cell E) → ℕ → Type 0
  NoneWaitsBefore cells end = (k : ℕ) (d : Cell E) → k < end → (slice_index_or cells k d).waiting ≡ false

  abbrev pub NoneWaits : List (Cell E) → Type 0
  NoneWaits cells = NoneWaitsBefore cells (length cells)

  -- The point was evaluated with this entry: the one that the cell keeps of then, or its own where it doesn't wait.
  abbrev pub WasEvaluatedWith : Cell E → E → Type 0
  WasEvaluatedWith cell entry = (cell.before ≡ Some entry) ⊎ ((cell.waiting ≡ false) × (cell.entry ≡ entry))

  -- a cell of the point was evaluated with the entry
  pub record HasEvaluated (cells : List (Cell E)) (point : Point) (entry : E) : Type 0 where
    pub cell : Cell E
    pub among : Contains cells cell
    pub at : cell.point ≡ point
    pub evaluated : WasEvaluatedWith cell entry

  -- a cell of the point has the entry, and knows these exits
  pub record HasKnown (cells : List (Cell E)) (point : Point) (entry : E) (exits : List BareExit) : Type 0 where
    pub cell : Cell E
    pub among : Contains cells cell
    pub at : cell.point ≡ point
    pub is : cell.entry ≡ entry
    pub knows : cell.exits ≡ Some exits

  abbrev pub waits : Cell E → ℕ
  waits cell = if cell.waiting then 1 else 0

  -- how many cells wait
  abbrev pub waiting_count : List (Cell E) → ℕ
  waiting_count cells = sum_by waits cells

  -- it is of the point, and has this entry
  pub record IsNewCell (point : Point) (entry : E) (cell : Cell E) : Type 0 where
    pub at : cell.point ≡ point
    pub is : cell.entry ≡ entry

abbrev pub ranks : {E : Type 0} → (E → ℕ) → List (Cell E) → ℕ
ranks rank cells = sum_by (λ cell. rank cell.entry) cells

-- The cells may take the entry at the point: they can be joined, and no cell of another point has its number.
pub record MayJoin {E : Type 0} (IsElement : E → Type 0) (AreAlike : E → E → Type 0) (cells : List (Cell E)) (point : Point) (entry : E) : Type 0 where
  pub one : (cell : Cell E) → Contains cells cell → cell_number cell ≡ point_number point → cell.point ≡ point
  pub elements : (cell : Cell E) → Contains cells cell → IsElement cell.entry
  pub alike : (cell : Cell E) → Contains cells cell → AreAlike cell.entry entry
  pub element : IsElement entry

-- a cell of the point has this entry or one above it
pub record HasAbove {E : Type 0} (IsLower : E → E → Type 0) (cells : List (Cell E)) (point : Point) (entry : E) : Type 0 where
  pub cell : Cell E
  pub among : Contains cells cell
  pub at : cell.point ≡ point
  pub above : IsLower entry cell.entry

-- in the words of a lattice
module _ {E : Type 0} (IsElement : E → Type 0) (AreAlike IsLower : E → E → Type 0) (rank : E → ℕ) where
  -- An entry was joined to the cell's. The cell waits where it grew, and knows exits only where it didn't.
  pub record IsRaised (cell : Cell E) (entry : E) (after : Cell E) : Type 0 where
    pub point : after.point ≡ cell.point
    pub number : after.number ≡ cell.number
    pub element : IsElement after.entry
    pub alike : AreAlike cell.entry after.entry
    pub grows : IsLower cell.entry after.entry
    pub joins : IsLower entry after.entry
    pub least : (z : E) → IsLower cell.entry z → IsLower entry z → IsLower after.entry z
    pub stays : waits cell ≤ waits after
    pub counts : waits after + rank cell.entry ≤ waits cell + rank after.entry
    pub evaluated : (e : E) → WasEvaluatedWith after e → WasEvaluatedWith cell e
    pub known : (exits : List BareExit) → after.exits ≡ Some exits → (cell.exits ≡ Some exits) × (after.entry ≡ cell.entry)

  -- it is a cell of the point to whose entry this one was joined
  pub record IsRaisedCell (cells : List (Cell E)) (point : Point) (entry : E) (cell : Cell E) : Type 0 where
    pub old : Cell E
    pub among : Contains cells old
    pub at : old.point ≡ point
    pub raised : IsRaised old entry cell

  -- The entry was joined to the cell of its point, or stands in a new one; the other cells stay. What a point was evaluated
  -- with it was evaluated with before, what exits a cell knows it knew before with the same entry, and no more cells are to be
  -- evaluated than cells and values came in.
  pub record IsJoined (cells : List (Cell E)) (point : Point) (entry : E) (after : List (Cell E)) : Type 0 where
    pub order : AreCellsInOrder after
    pub evaluated : (cell : Cell E) → Contains after cell → (e : E) → WasEvaluatedWith cell e → HasEvaluated cells cell.point e
    pub known : (cell : Cell E) → Contains after cell → (exits : List BareExit) → cell.exits ≡ Some exits → HasKnown cells cell.point cell.entry exits
    pub grows : (cell : Cell E) → Contains cells cell → HasAbove IsLower after cell.point cell.entry
    pub joins : HasAbove IsLower after point entry
    pub from : (cell : Cell E) → Contains after cell → Contains cells cell ⊎ (IsNewCell point entry cell ⊎ IsRaisedCell cells point entry cell)
    pub counts : waiting_count after + (length cells + ranks rank cells) ≤ waiting_count cells + (length after + ranks rank after)
    pub sizes : length after + waiting_count cells ≤ length cells + waiting_count after
