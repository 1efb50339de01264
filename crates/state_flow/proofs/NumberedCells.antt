-- Cells of numbered entries: what may be joined to them, and that they stay as the pool grows.
use Rattle.std.proofs.Common.{◌≡◌, ℕ, ◌+◌, ◌<◌, false, Option, None, List, [], ◌∷◌, length, get_or, set, map, refl, sym, ap, ap₂, subst, ◌∙◌, inl, inr, arith, All}
use Rattle.std.specs.{Prelude.{option_map, Contains}, Option.{ForSome}}
use Rattle.std.proofs.lemmas.List.{length-map, map-set, get_or-map}
use Rattle.osek_standard.specs.declared.{app.App.{App}, point.Point.{Point}}
use Rattle.osek_standard.proofs.Members.{Among, among_contained}
use Rattle.abstract_state.specs.declared.{table.PlainEntry.{PlainEntry}, value.Domain.{Domain}}
use Rattle.numbered_sets.specs.{declared.{numbered_entry.NumberedEntry.{NumberedEntry}, table.NumberedRow.{NumberedRow}}, Numbers.{Numbers}, NumberedEntries.{number_domains, entry_numbers, AreSoundNumbers, IsBelowNumbers}}
use Rattle.numbered_sets.specs.{Pools.{Values, no_values, pool_domains, AreValues, IsLonger}, Views.{plain_entry, AreNumbersOf}}
use Rattle.numbered_sets.proofs.{ViewLaws.{same_view, still_known, same_heights, same_domains}, KnownNumbers.{known_sound}}
use Rattle.numbered_sets.specs.PlainTables.{row_at, plain_row, plain_rows}
use Rattle.state_flow.specs.{declared.cells.Cell.{Cell}, Cells.{cell_number, AreCellsInOrder, IsWaitingCell, NoneWaits, MayJoin, IsJoined}}
use Rattle.point_exits.specs.Rows.{IsProperRow}
use Rattle.table_rows.specs.{declared.bare.BareExit.{BareExit}, BareExits.{AreBareExitsOf}}
use Rattle.state_flow.specs.Progress.{AreProperCells, AreJoined}
use Rattle.state_flow.proofs.{CellLists.{set_cases}, JoinedRows.{may_join, joined_one}, Closing.{evaluated, evaluated_proper, progress_made}}
use Rattle.state_flow.specs.{PlainCells.{plain_cell, plain_cells, AreCellsOf}, Numbering.{AreNumberedCells, AreEvaluated, IsKnownRow, HasProgress}, Parts.{AreRowsBeside}}
use Rattle.state_flow.proofs.{KeptEntries.{some_of_map, kept_same}, NewStates.{rows_of_cell}, Raising.{AreAlikeNumbers}, JoiningCells.{among_plain, joined_known, joined_plain}}

plain_at : (pool : List Values) (cells : List (Cell NumberedEntry)) (k : ℕ) (d : Cell PlainEntry) (some : Cell NumberedEntry) → k < length cells → get_or (plain_cells pool cells) k d ≡ plain_cell pool (get_or cells k some)
plain_at pool cells k d some lt = get_or-map (plain_cell pool) cells k some d lt

pub numbered_order : (pool : List Values) (cells : List (Cell NumberedEntry)) → AreCellsInOrder (plain_cells pool cells) → AreCellsInOrder cells
numbered_order pool cells order = record {
  told = λ k d lt.
      (let long = length-map cells (plain_cell pool) in
      let here = plain_at pool cells k (plain_cell pool d) d lt in
      sym (ap (λ (x : Cell PlainEntry). x.number) here) ∙ order.told k (plain_cell pool d) (omega (arith, lt, long)) ∙ ap cell_number here);
  ascend = record {
    before = λ i j d lt known.
        (let first = ap cell_number (plain_at pool cells i (plain_cell pool d) d (omega (arith, lt, known))) in
        let second = ap cell_number (plain_at pool cells j (plain_cell pool d) d known) in
        let long = length-map cells (plain_cell pool) in
        let before = order.ascend.before i j (plain_cell pool d) lt (omega (arith, known, long)) in
        omega (arith, first, second, before));
  };
}

-- cells that wait
pub waits_plain : (pool : List Values) (cells : List (Cell NumberedEntry)) (place : ℕ) → IsWaitingCell cells place → IsWaitingCell (plain_cells pool cells) place
waits_plain pool cells place h = record {
  known = (let long = length-map cells (plain_cell pool) in omega (arith, h.known, long));
  waits = λ d.
      (let some : Cell NumberedEntry = record { point = d.point; number = 0; waiting = false; entry = record { sets = [] }; before = None; exits = None; growth = tt } in
      ap (λ (x : Cell PlainEntry). x.waiting) (plain_at pool cells place d some h.known) ∙ h.waits some);
}

pub none_waits_plain : (pool : List Values) (cells : List (Cell NumberedEntry)) → NoneWaits cells → NoneWaits (plain_cells pool cells)
none_waits_plain pool cells h k d lt =
    let long = length-map cells (plain_cell pool) in
    let some : Cell NumberedEntry = record { point = d.point; number = 0; waiting = false; entry = record { sets = [] }; before = None; exits = None; growth = tt } in
    let below : k < length cells = omega (arith, lt, long) in
    ap (λ (x : Cell PlainEntry). x.waiting) (plain_at pool cells k d some below) ∙ h k some below

module _ (app : App) (pool : List Values) (cells : List (Cell NumberedEntry)) (point : Point) (entry : NumberedEntry) (all : All AreValues pool) (numbered : AreNumberedCells app pool cells) (its : AreNumbersOf pool entry)
    (is_proper : IsProperRow app (row_at point (plain_entry pool entry))) where
  sound_numbers : (e : NumberedEntry) (p : Point) → AreNumbersOf pool e → IsProperRow app (row_at p (plain_entry pool e)) → AreSoundNumbers e
  sound_numbers e p known proper = known_sound pool e all known (let same = same_heights pool 0 e.sets in let few = proper.row.sound.few in omega (arith, same, few))

  pub numbered_may : MayJoin AreSoundNumbers AreAlikeNumbers cells point entry
  numbered_may = record {
    one = λ cell h e. (may_join app (plain_cells pool cells) (row_at point (plain_entry pool entry)) numbered.proper is_proper).one (plain_cell pool cell) (among_plain pool cells cell h) e;
    elements = λ cell h. sound_numbers cell.entry cell.point (numbered.known.each cell h) (numbered.proper.each (plain_cell pool cell) (among_plain pool cells cell h));
    alike = λ cell h. (numbered.known.each cell h).domains ∙ sym its.domains;
    element = sound_numbers entry point its is_proper;
  }

  pub numbered_joined : (after : List (Cell NumberedEntry)) → IsJoined AreSoundNumbers AreAlikeNumbers IsBelowNumbers entry_numbers cells point entry after → AreJoined app (plain_cells pool cells) (row_at point (plain_entry pool entry) ∷ []) (plain_cells pool after)
  numbered_joined after h =
      joined_one app (plain_cells pool cells) (row_at point (plain_entry pool entry)) numbered.proper is_proper (plain_cells pool after) (joined_plain pool cells after point entry all numbered.known its h)

  pub numbered_after : (after : List (Cell NumberedEntry)) → IsJoined AreSoundNumbers AreAlikeNumbers IsBelowNumbers entry_numbers cells point entry after → AreCellsOf pool after
  numbered_after after h = joined_known pool cells after point entry all numbered.known its h

-- ---- longer pools

cell_same : (pool after : List Values) (cell : Cell NumberedEntry) → IsLonger pool after → AreNumbersOf pool cell.entry → ForSome cell.before (AreNumbersOf pool) → plain_cell after cell ≡ plain_cell pool cell
cell_same pool after cell longer known kept = λ i. record {
  point = cell.point;
  number = cell.number;
  waiting = cell.waiting;
  entry = same_view pool after cell.entry longer known i;
  before = kept_same pool after cell.before longer kept i;
  exits = cell.exits;
  growth = tt;
}

cells_by : (pool after : List Values) (cells : List (Cell NumberedEntry)) → IsLonger pool after → ((cell : Cell NumberedEntry) → Among cell cells → plain_cell after cell ≡ plain_cell pool cell) → plain_cells after cells ≡ plain_cells pool cells
cells_by pool after [] longer same = refl
cells_by pool after (x ∷ xs) longer same = ap₂ (λ (y : Cell PlainEntry) (rest : List (Cell PlainEntry)). y ∷ rest) (same x (inl refl)) (cells_by pool after xs longer (λ cell m. same cell (inr m)))

pub cells_same : (pool after : List Values) (cells : List (Cell NumberedEntry)) → IsLonger pool after → AreCellsOf pool cells → plain_cells after cells ≡ plain_cells pool cells
cells_same pool after cells longer known = cells_by pool after cells longer (λ cell m. let c = among_contained cells cell m in cell_same pool after cell longer (known.each cell c) (known.before cell c))

pub cells_known : (pool after : List Values) (cells : List (Cell NumberedEntry)) → IsLonger pool after → AreCellsOf pool cells → AreCellsOf after cells
cells_known pool after cells longer known = record {
  each = λ cell m. still_known pool after cell.entry longer (known.each cell m);
  before = λ cell m x kept. still_known pool after x longer (known.before cell m x kept);
}

pub cells_on : (app : App) (pool after : List Values) (cells : List (Cell NumberedEntry)) → IsLonger pool after → AreNumberedCells app pool cells → AreNumberedCells app after cells
cells_on app pool after cells longer h = record {
  known = cells_known pool after cells longer h.known;
  proper = subst (AreProperCells app) (sym (cells_same pool after cells longer h.known)) h.proper;
}

-- a row can be evaluated as before
pub row_same : (pool after : List Values) (row : NumberedRow) → IsLonger pool after → AreNumbersOf pool row.entry → plain_row after row ≡ plain_row pool row
row_same pool after row longer known = ap (row_at row.point) (same_view pool after row.entry longer known)

pub known_still : (app : App) (pool after : List Values) (row : NumberedRow) → IsLonger pool after → IsKnownRow app pool row → IsKnownRow app after row
known_still app pool after row longer h = record {
  numbers = still_known pool after row.entry longer h.numbers;
  proper = subst (IsProperRow app) (sym (row_same pool after row longer h.numbers)) h.proper;
}

-- ---- an evaluation

-- a cell that is lent out of its memory is the one there
pub lent_there : (cells : List (Cell NumberedEntry)) (place : ℕ) (own lent : Cell NumberedEntry) → own ≡ lent → own ≡ get_or cells place own → get_or cells place lent ≡ lent
lent_there cells place own lent same there = subst (λ (x : Cell NumberedEntry). get_or cells place x ≡ x) same (sym there)

abbrev pub asked : Cell NumberedEntry → Option NumberedEntry → Option (List BareExit) → Cell NumberedEntry
asked cell kept exits = record cell { waiting = false; before = kept; exits = exits }

pub nothing_kept : (cell : Cell NumberedEntry) → ForSome None (λ (x : NumberedEntry). x ≡ cell.entry)
nothing_kept cell x is_kept = absurd (cc)

module _ (app : App) (pool : List Values) (cells : List (Cell NumberedEntry)) (place : ℕ) (cell : Cell NumberedEntry) (numbered : AreNumberedCells app pool cells) (waits : IsWaitingCell cells place) (is : get_or cells place cell ≡ cell) where
  among : Contains cells cell
  among = (place, waits.known, is)

  pub numbers_there : AreNumbersOf pool cell.entry
  numbers_there = numbered.known.each cell among

  pub proper_there : IsProperRow app (row_at cell.point (plain_entry pool cell.entry))
  proper_there = numbered.proper.each (plain_cell pool cell) (among_plain pool cells cell among)

  plain_known : place < length (plain_cells pool cells)
  plain_known = (let long = length-map cells (plain_cell pool) in omega (arith, waits.known, long))

  plain_is : get_or (plain_cells pool cells) place (plain_cell pool cell) ≡ plain_cell pool cell
  plain_is = plain_at pool cells place (plain_cell pool cell) cell waits.known ∙ ap (plain_cell pool) is

  -- what is kept of a cell before
  pub kept_there : ForSome cell.before (AreNumbersOf pool)
  kept_there = numbered.known.before cell among

  pub kept_long : ForSome cell.before (λ x. length x.sets ≡ length cell.entry.sets)
  kept_long x is_kept =
      let same : number_domains x ≡ number_domains cell.entry = (kept_there x is_kept).domains ∙ sym numbers_there.domains in
      sym (length-map x.sets (λ (y : Numbers). y.domain)) ∙ ap (λ (ds : List Domain). length ds) same ∙ length-map cell.entry.sets (λ (y : Numbers). y.domain)

  -- the exits that it knows are those of its row
  pub exits_there : (n : ℕ) → HasProgress app pool cells n → ForSome cell.exits (AreBareExitsOf app (row_at cell.point (plain_entry pool cell.entry)))
  exits_there n progress = progress.progress.known (plain_cell pool cell) (among_plain pool cells cell among)

  -- the cell keeps its own entry, or none, and knows these exits, or none
  module _ (kept : Option NumberedEntry) (as_is : ForSome kept (λ x. x ≡ cell.entry)) (exits : Option (List BareExit)) where
    asked_known : AreCellsOf pool (set cells place (asked cell kept exits))
    asked_known = record {
      each = λ x m. elim (set_cases cells place (asked cell kept exits) x m) [
        | inl new ↦ subst (λ (y : Cell NumberedEntry). AreNumbersOf pool y.entry) (sym new) numbers_there
        | inr old ↦ numbered.known.each x old
      ];
      before = λ x m e is_kept. elim (set_cases cells place (asked cell kept exits) x m) [
        | inl new ↦ subst (AreNumbersOf pool) (sym (as_is e (ap (λ (y : Cell NumberedEntry). y.before) (sym new) ∙ is_kept))) numbers_there
        | inr old ↦ numbered.known.before x old e is_kept
      ];
    }

    asked_same : plain_cells pool (set cells place (asked cell kept exits)) ≡ set (plain_cells pool cells) place (evaluated (plain_cell pool cell) (option_map (plain_entry pool) kept) exits)
    asked_same = map-set (plain_cell pool) cells place (asked cell kept exits)

    pub asked_cells : AreNumberedCells app pool (set cells place (asked cell kept exits))
    asked_cells = record {
      known = asked_known;
      proper = subst (AreProperCells app) (sym asked_same) (evaluated_proper (plain_cells pool cells) place (plain_cell pool cell) plain_known plain_is (option_map (plain_entry pool) kept) exits app numbered.proper);
    }

    pub progress_on : (rows : List NumberedRow) (after : List Values) (end : List (Cell NumberedEntry)) → AreCellsOf after end → AreRowsBeside cell.point cell.entry cell.before rows
        → ForSome exits (AreBareExitsOf app (row_at cell.point (plain_entry pool cell.entry))) → AreEvaluated app (plain_rows pool rows) (plain_cells pool (set cells place (asked cell kept exits))) (plain_cells after end) → (n : ℕ) → HasProgress app pool cells n → HasProgress app after end (n + 1)
    progress_on rows after end known beside its_exits h n progress = record {
      known = known;
      progress =
          progress_made (plain_cells pool cells) place (plain_cell pool cell) plain_known plain_is (option_map (plain_entry pool) kept) exits app (plain_rows pool rows) (plain_cells after end)
          (sym (ap (λ (x : Cell NumberedEntry). x.waiting) is) ∙ waits.waits cell)
          (λ z e. let x = some_of_map (plain_entry pool) kept z e in sym x.2 ∙ ap (plain_entry pool) (as_is x.0 x.1))
          (rows_of_cell app pool cell rows (sym (same_domains pool 0 cell.entry.sets) ∙ proper_there.row.domains) numbers_there kept_there beside) its_exits
          (subst (λ (xs : List (Cell PlainEntry)). AreEvaluated app (plain_rows pool rows) xs (plain_cells after end)) asked_same h) n progress.progress;
    }

pub domains_kept : (ds : List Domain) → pool_domains (map no_values ds) ≡ ds
domains_kept [] = refl
domains_kept (d ∷ ds) = ap (λ (es : List Domain). d ∷ es) (domains_kept ds)
