-- What holds between two evaluations, and at the end: what a point was evaluated with leads into the table.
use Rattle.std.proofs.Common.{◌≡◌, ◌⊎◌, ℕ, suc, ◌+◌, ◌<◌, ◌≤◌, true, false, Option, None, List, [], ◌∷◌, length, map, get_or, set, IsTrue, refl, sym, ap, subst, ◌∙◌, inl, inr, arith}
use Rattle.std.specs.{Prelude.{Contains}, Option.{ForSome}}
use Rattle.std.proofs.lemmas.{Bool.{cases_lt}, List.{map-set, set-get_or, length-set, get_or_default, get_or-map, Sums.{sum_by-set, sum_by-cons, get_or-le-sum_by}}}
use Rattle.osek_values.specs.declared.numbers.ModeNo.{ModeNo}
use Rattle.osek_standard.specs.declared.{app.App.{App}, state.State.{State}, point.Point.{Point}}
use Rattle.osek_standard.specs.declared.point.Point.TheVariants as point
use Rattle.osek_standard.specs.{Points.{point_of}, Kernel.{start, step}, Outcomes.{Mark, Silent, Arrived, Did, shows}, Well.{Well}}
use Rattle.osek_standard.proofs.StepKeeps.{start_is_well, step_keeps}
use Rattle.abstract_state.specs.{declared.table.{PlainEntry.{PlainEntry}, TableRow.{TableRow}}, Components.{abstract_of}}
use Rattle.abstract_state.specs.Tables.{Sets, In, Inductive, IsContained, Least, entry_values, sets_of}
use Rattle.abstract_state.specs.Regular.{IsRegular}
use Rattle.abstract_state.proofs.{RegularLaws.{start_regular, step_regular}, ContainmentLaws.{in_larger}, AlikeLaws.{in_alike}, MarkLaws.{shown_silent}}
use Rattle.flow_model.specs.Effects.{IsAt}
use Rattle.numbered_sets.specs.PlainTables.{row_at}
use Rattle.table_rows.specs.{declared.bare.BareExit.{BareExit}, BareExits.{AreBareExitsOf}}
use Rattle.state_flow.specs.{declared.cells.Cell.{Cell}, Cells.{AreCellsInOrder, IsWaitingCell, NoneWaits, WasEvaluatedWith, cell_number, waits, waiting_count}, KnownCells.{KnowTheirExits}}
use Rattle.point_exits.specs.Rows.{IsProperRow, IsRowIn}
use Rattle.state_flow.specs.Rows.{row_of, sets_in}
use Rattle.point_exits.specs.Starts.{IsStartRow}
use Rattle.state_flow.specs.{Reaching.{IsLed}, Progress.{AreProperCells, LeadsInto, values_in, AreJoined, Progress, AreStarted}, Numbering.{AreEvaluated, AreRowsOfCell}}
use Rattle.state_flow.proofs.{CellLists.{set_cases, order_set}, RowLaws.{entry_cell, cell_entry, cell_value, only_there}}

silent_or : (m : Mark) → (m ≡ Silent) ⊎ (m ≡ Silent → ⊥)
silent_or Silent = inl refl
silent_or Arrived = inr (λ e. cc)
silent_or (Did does status) = inr (λ e. cc)

module _ (app : App) where
  -- a state that rows lead to is in a table that has them
  in_led : (table : Sets) (rows : List TableRow) (s : State) → ((row : TableRow) → Contains rows row → IsRowIn table row) → Well app s → IsRegular app s → IsLed app rows s → In app table s
  in_led table rows s has w regular l =
      let row = has l.row l.listed in
      record {
        well = w;
        regular = regular;
        entry = subst (λ (q : Point). IsTrue (table.entry q)) (sym l.point) row.entry;
        within = λ c lt. subst (λ (q : Point). IsTrue (table.has q c (abstract_of app s c))) (sym l.point) (row.has c (abstract_of app s c) (l.within c lt));
      }

  module _ (cells : List (Cell PlainEntry)) (cell : Cell PlainEntry) (order : AreCellsInOrder cells) (among : Contains cells cell) where
    -- a state of the table at a cell's point is one of its entry
    pub at_cell : (s : State) → In app (sets_in cells) s → point_of s ≡ cell.point → IsAt app cell.point cell.entry s
    at_cell s h at = record {
      well = h.well;
      regular = h.regular;
      point = at;
      within = λ c lt. only_there cells cell c (abstract_of app s c) order among (subst (λ (q : Point). IsTrue ((sets_in cells).has q c (abstract_of app s c))) at (h.within c lt));
    }

  -- a state of a cell's entry is one of the table
  in_cell : (cells : List (Cell PlainEntry)) (cell : Cell PlainEntry) → Contains cells cell → (s : State) → IsAt app cell.point cell.entry s → In app (sets_in cells) s
  in_cell cells cell among s h = record {
    well = h.well;
    regular = h.regular;
    entry = subst (λ (q : Point). IsTrue ((sets_in cells).entry q)) (sym h.point) (cell_entry cells cell among);
    within = λ c lt. subst (λ (q : Point). IsTrue ((sets_in cells).has q c (abstract_of app s c))) (sym h.point) (cell_value cells cell c (abstract_of app s c) among (h.within c lt));
  }

-- what exits a cell knows after a join, a cell of its row knew before
known_after : (app : App) (cells : List (Cell PlainEntry)) (rows : List TableRow) (after : List (Cell PlainEntry)) → KnowTheirExits app cells → AreJoined app cells rows after → KnowTheirExits app after
known_after app cells rows after know joined cell h exits is =
    let old = joined.known cell h exits is in
    let same : row_of old.cell ≡ row_of cell = λ i. record { point = old.at i; entry = old.is i } in
    subst (λ (row : TableRow). AreBareExitsOf app row exits) same (know old.cell old.among exits old.knows)

-- the cell at a place, which doesn't wait any more, with what it keeps and the exits that it knows now
abbrev pub evaluated : Cell PlainEntry → Option PlainEntry → Option (List BareExit) → Cell PlainEntry
evaluated cell kept exits = record cell { waiting = false; before = kept; exits = exits }

module _ (cells : List (Cell PlainEntry)) (place : ℕ) (cell : Cell PlainEntry) (known : place < length cells) (is : get_or cells place cell ≡ cell) (kept : Option PlainEntry) (exits : Option (List BareExit)) where
  -- it stands for the same row
  pub same_rows : map row_of (set cells place (evaluated cell kept exits)) ≡ map row_of cells
  same_rows =
      map-set row_of cells place (evaluated cell kept exits)
      ∙ ap (λ (row : TableRow). set (map row_of cells) place row) (ap row_of (sym is) ∙ sym (Rattle.std.proofs.lemmas.List.get_or-map row_of cells place cell (row_of cell) known))
      ∙ set-get_or (map row_of cells) place (row_of cell)

  pub same_sets : sets_in (set cells place (evaluated cell kept exits)) ≡ sets_in cells
  same_sets = ap (λ (rows : List TableRow). sets_of (record { rows = rows })) same_rows

  pub evaluated_proper : (app : App) → AreProperCells app cells → AreProperCells app (set cells place (evaluated cell kept exits))
  evaluated_proper app proper_cells = record {
    order = order_set cells proper_cells.order place (evaluated cell kept exits) known (ap cell_number (get_or_default cells place (evaluated cell kept exits) cell known ∙ is))
        (subst (λ (x : Cell PlainEntry). x.number ≡ cell_number x) is (proper_cells.order.told place cell known));
    each = λ x h. elim (set_cases cells place (evaluated cell kept exits) x h) [
      | inl e ↦ subst (λ (y : Cell PlainEntry). IsProperRow app (row_of y)) (sym e) (proper_cells.each cell (place, known, is))
      | inr stays ↦ proper_cells.each x stays
    ];
  }

  module _ (app : App) (rows : List TableRow) (after : List (Cell PlainEntry)) (waiting : cell.waiting ≡ true) (as_is : ForSome kept (λ entry. entry ≡ cell.entry)) (for_cell : AreRowsOfCell app cell rows)
      (its_exits : ForSome exits (AreBareExitsOf app (row_of cell))) (done : AreEvaluated app rows (set cells place (evaluated cell kept exits)) after) where
    among : Contains cells cell
    among = (place, known, is)

    grown : IsContained (sets_in cells) (sets_in after)
    grown = subst (λ (t : Sets). IsContained t (sets_in after)) same_sets done.joined.grows

    larger : (p : Point) (entry : PlainEntry) → LeadsInto app (sets_in cells) p entry → LeadsInto app (sets_in after) p entry
    larger p entry leads s e at = in_larger app (sets_in cells) (sets_in after) (step app s e).state grown (leads s e at)

    -- what the cell was evaluated with before leads into the table, and so does what is new
    leads_now : (n : ℕ) → Progress app cells n → LeadsInto app (sets_in after) cell.point cell.entry
    leads_now n progress s e at =
        let next = (step app s e).state in
        let w : Well app next = step_keeps app s e at.well in
        elim (silent_or (shows app s e)) [
          | inl silent ↦ in_alike app (sets_in after) s next w (shown_silent app s e silent) (in_larger app (sets_in cells) (sets_in after) s grown (in_cell app cells cell among s at))
          | inr shown ↦ elim (for_cell.all s at) [
            | inl had ↦ larger cell.point had.entry (progress.closed cell among had.entry (inl had.is)) s e had.at
            | inr new ↦ in_led app (sets_in after) done.ends next done.joined.joins w (step_regular app s e at.well at.regular) (done.covers new.row new.among s e new.at shown)
          ]
        ]

    its_entry : (entry : PlainEntry) → WasEvaluatedWith (evaluated cell kept exits) entry → entry ≡ cell.entry
    its_entry entry (inl is_kept) = as_is entry is_kept
    its_entry entry (inr own) = sym own.1

    closed_after : (n : ℕ) → Progress app cells n → (x : Cell PlainEntry) → Contains after x → (entry : PlainEntry) → WasEvaluatedWith x entry → LeadsInto app (sets_in after) x.point entry
    closed_after n progress x h entry was =
        let old = done.joined.evaluated x h entry was in
        subst (λ (p : Point). LeadsInto app (sets_in after) p entry) old.at
        (elim (set_cases cells place (evaluated cell kept exits) old.cell old.among) [
          | inl e ↦
              (let same : entry ≡ cell.entry = its_entry entry (subst (λ (y : Cell PlainEntry). WasEvaluatedWith y entry) e old.evaluated) in
              subst (λ (y : Cell PlainEntry). LeadsInto app (sets_in after) y.point entry) (sym e) (subst (LeadsInto app (sets_in after) cell.point) (sym same) (leads_now n progress)))
          | inr stays ↦ larger old.cell.point entry (progress.closed old.cell stays entry old.evaluated)
        ])

    -- each inductive table that has the cell's entry has what it leads to
    least_after : (n : ℕ) → Progress app cells n → (other : Sets) → Inductive app other → IsContained (sets_in after) other
    least_after n progress other inductive =
        let old = progress.least other inductive in
        let has : (row : TableRow) → Contains rows row → IsRowIn other (row_at row.point row.entry) = λ row m. record {
          entry = subst (λ (p : Point). IsTrue (other.entry p)) (sym (for_cell.at row m)) (old.entry cell.point (cell_entry cells cell among));
          has = λ c v h. subst (λ (p : Point). IsTrue (other.has p c v)) (sym (for_cell.at row m)) (old.has cell.point c v (cell_value cells cell c v among ((for_cell.below row m).each c v h)));
        } in
        done.joined.least other (subst (λ (t : Sets). IsContained t other) (sym same_sets) old) (λ row h.
        let x = done.each row h in
        x.reached.least other inductive (has x.from x.among))

    -- the exits that the cell knows now are those of its row
    known_there : KnowTheirExits app cells → KnowTheirExits app (set cells place (evaluated cell kept exits))
    known_there know x h xs is_known = elim (set_cases cells place (evaluated cell kept exits) x h) [
      | inl e ↦
          subst (λ (y : Cell PlainEntry). AreBareExitsOf app (row_of y) xs) (sym e) (its_exits xs (ap (λ (y : Cell PlainEntry). y.exits) (sym e) ∙ is_known))
      | inr stays ↦ know x stays xs is_known
    ]

    -- One evaluation: what the cell's new states lead to was joined in.
    pub progress_made : (n : ℕ) → Progress app cells n → Progress app after (n + 1)
    progress_made n progress =
        let joined = done.joined in
        let fewer = sum_by-set waits cells place (evaluated cell kept exits) cell known in
        let same = sum_by-set (λ (x : Cell PlainEntry). entry_values x.entry) cells place (evaluated cell kept exits) cell known in
        let one : waits (get_or cells place cell) ≡ 1 = ap waits is ∙ (rw waiting refl) in
        let value : entry_values (get_or cells place cell).entry ≡ entry_values cell.entry = ap (λ (x : Cell PlainEntry). entry_values x.entry) is in
        let long = length-set cells place (evaluated cell kept exits) in
        record {
          cells_proper = joined.cells_proper;
          start = λ mode lt. in_larger app (sets_in cells) (sets_in after) (start app mode).state grown (progress.start mode lt);
          closed = closed_after n progress;
          known = known_after app (set cells place (evaluated cell kept exits)) done.ends after (known_there progress.known) joined;
          least = least_after n progress;
          most = omega (arith, progress.most, joined.counts, fewer, same, one, value, long);
          fewest = omega (arith, progress.fewest, joined.sizes, fewer, one, long);
        }

module _ (app : App) where
  pub started_more : (k : ℕ) (mode : ModeNo) (cells after : List (Cell PlainEntry)) (row : TableRow) → mode.0 ≡ k → mode.0 < length app.modes → AreStarted app k cells → IsStartRow app mode row → AreJoined app cells (row ∷ []) after → AreStarted app (k + 1) after
  started_more k mode cells after row is known so_far first joined =
      let here : IsRowIn (sets_in after) row = joined.joins row (0, omega arith, refl) in
      let there : In app (sets_in after) (start app mode).state = record {
        well = start_is_well app mode known;
        regular = start_regular app mode known;
        entry = subst (λ (q : Point). IsTrue ((sets_in after).entry q)) (sym first.point) here.entry;
        within = λ c lt. subst (λ (q : Point). IsTrue ((sets_in after).has q c (abstract_of app (start app mode).state c))) (sym first.point) (here.has c (abstract_of app (start app mode).state c) (first.within c lt));
      } in
      record {
        cells_proper = joined.cells_proper;
        start = λ other lt. elim (cases_lt other.0 k) [
          | inl below ↦ in_larger app (sets_in cells) (sets_in after) (start app other).state joined.grows (so_far.start other below)
          | inr above ↦
              (let same : mode.0 ≡ other.0 = omega (arith, is, above, lt) in
              let modes : mode ≡ other = ap (λ (n : ℕ). record { 0 = n }) same in
              subst (λ (m : ModeNo). In app (sets_in after) (start app m).state) modes there)
        ];
        fresh = λ cell h entry was. let old = joined.evaluated cell h entry was in so_far.fresh old.cell old.among entry old.evaluated;
        known = known_after app cells (row ∷ []) after so_far.known joined;
        least = λ other inductive. joined.least other (so_far.least other inductive) (λ r h.
            subst (IsRowIn other) (ap (λ (n : ℕ). get_or (row ∷ []) n r) (only_place r h) ∙ h.2) (first.least other inductive));
        most = omega (arith, so_far.most, joined.counts);
        fewest = omega (arith, so_far.fewest, joined.sizes);
      }
    where
      only_place : (r : TableRow) (h : Contains (row ∷ []) r) → 0 ≡ h.0
      only_place r h = omega (arith, h.1)

  pub started_all : (k : ℕ) (cells : List (Cell PlainEntry)) → length app.modes ≤ k → AreStarted app k cells → Progress app cells 0
  started_all k cells le so_far = record {
    cells_proper = so_far.cells_proper;
    start = λ mode lt. so_far.start mode (omega (arith, lt, le));
    closed = λ cell h entry was. absurd (so_far.fresh cell h entry was);
    known = so_far.known;
    least = so_far.least;
    most = omega (arith, so_far.most);
    fewest = omega (arith, so_far.fewest);
  }

none_waiting : (cells : List (Cell PlainEntry)) → NoneWaits cells → waiting_count cells ≡ 0
none_waiting [] none = refl
none_waiting (cell ∷ cells) none =
    let first : waits cell ≡ 0 = rw (none 0 cell (omega arith)) refl in
    let rest = none_waiting cells (λ k d lt. none (suc k) d (omega (arith, lt))) in
    sum_by-cons waits cell cells ∙ omega (arith, first, rest)

-- nothing waits: each step stays in the table
pub least_at_end : (app : App) (cells : List (Cell PlainEntry)) (n : ℕ) → Progress app cells n → NoneWaits cells → Least app (sets_in cells)
least_at_end app cells n progress none = record {
  inductive = record {
    start = progress.start;
    step = λ s e h.
        let x = entry_cell cells (point_of s) h.entry in
        let idle : x.cell.waiting ≡ false = ap (λ (y : Cell PlainEntry). y.waiting) (sym x.among.2) ∙ none x.among.0 x.cell x.among.1 in
        progress.closed x.cell x.among x.cell.entry (inr (idle, refl)) s e (at_cell app cells x.cell progress.cells_proper.order x.among s h (sym x.at));
  };
  least = progress.least;
}

pub counted_at_end : (app : App) (cells : List (Cell PlainEntry)) (n : ℕ) → Progress app cells n → NoneWaits cells → (n ≤ length cells + values_in cells) × (length cells ≤ n)
counted_at_end app cells n progress none = (omega (arith, progress.most, none_waiting cells none), omega (arith, progress.fewest, none_waiting cells none))

-- while a cell waits, fewer evaluations were made than cells and values there are
pub room_left : (app : App) (cells : List (Cell PlainEntry)) (n place : ℕ) → Progress app cells n → IsWaitingCell cells place → n < length cells + values_in cells
room_left app cells n place progress at =
    let d : Cell PlainEntry = record { point = point.Halted; number = 0; waiting = false; entry = record { sets = [] }; before = None; exits = None; growth = tt } in
    let some = get_or-le-sum_by waits cells place d at.known in
    let one : waits (get_or cells place d) ≡ 1 = rw (at.waits d) refl in
    omega (arith, progress.most, some, one)
