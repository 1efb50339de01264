-- Rows that are joined to cells, one after the other.
use Rattle.std.proofs.Common.{◌≡◌, List, [], ◌∷◌, ◌++◌, IsTrue, refl, sym, subst, ◌∙◌, inl, inr, arith}
use Rattle.std.specs.Prelude.{Contains}
use Rattle.std.proofs.lemmas.List.Elements.{Contains-push, Contains-push_cases}
use Rattle.osek_standard.specs.{declared.{app.App.{App}, point.Point.{Point}}, Points.{IsPoint}}
use Rattle.osek_standard.proofs.{PointLaws.{one_number}, Members.{among_left, among_right, among_cases, among_contained, contained_among}}
use Rattle.abstract_state.specs.{declared.table.{PlainEntry.{PlainEntry}, TableRow.{TableRow}}, Components.{IsAllowed}, Domains.{domains, IsSoundEntry, IsBelow}}
use Rattle.abstract_state.specs.Tables.{Sets, IsContained, entry_values}
use Rattle.abstract_state.proofs.ContainmentLaws.{contained_itself, contained_onward}
use Rattle.state_flow.specs.{declared.cells.Cell.{Cell}, Cells.{MayJoin, HasAbove, IsNewCell, IsRaisedCell, IsJoined}}
use Rattle.point_exits.specs.Rows.{IsProperRow, IsRowIn}
use Rattle.state_flow.specs.{Rows.{row_of, sets_in}, Progress.{AreProperCells, AreJoined}}
use Rattle.state_flow.proofs.{EntryUnion.{of_two}, RowLaws.{cell_in, cells_contained, contained_row}}

abbrev pub AreAlike : PlainEntry → PlainEntry → Type 0
AreAlike a b = domains a ≡ domains b

module _ (app : App) (cells : List (Cell PlainEntry)) (row : TableRow) (proper_cells : AreProperCells app cells) (proper : IsProperRow app row) where
  pub may_join : MayJoin IsSoundEntry AreAlike cells row.point row.entry
  may_join = record {
    one = λ cell h e. one_number app cell.point row.point (proper_cells.each cell h).row.point proper.row.point e;
    elements = λ cell h. (proper_cells.each cell h).row.sound;
    alike = λ cell h. (proper_cells.each cell h).row.domains ∙ sym proper.row.domains;
    element = proper.row.sound;
  }

  module _ (after : List (Cell PlainEntry)) (joined : IsJoined IsSoundEntry AreAlike IsBelow entry_values cells row.point row.entry after) where
    -- a cell with a lower entry is in the table
    lower_in : (p : Point) (entry : PlainEntry) → HasAbove IsBelow after p entry → IsRowIn (sets_in after) (record { point = p; entry = entry })
    lower_in p entry h =
        let there = cell_in after h.cell h.among in
        record {
          entry = subst (λ (q : Point). IsTrue ((sets_in after).entry q)) h.at there.entry;
          has = λ c v m. subst (λ (q : Point). IsTrue ((sets_in after).has q c v)) h.at (there.has c v (h.above.each c v m));
        }

    raised_proper : (cell : Cell PlainEntry) → IsRaisedCell IsSoundEntry AreAlike IsBelow entry_values cells row.point row.entry cell → IsProperRow app (row_of cell)
    raised_proper cell x =
        let old = proper_cells.each x.old x.among in
        record {
          row = record {
            point = subst (IsPoint app) (sym x.raised.point) old.row.point;
            sound = x.raised.element;
            domains = sym x.raised.alike ∙ old.row.domains;
          };
          allowed = λ c v lt m. elim (of_two x.old.entry row.entry cell.entry x.raised.least c v m) [
            | inl before ↦ subst (λ (q : Point). IsAllowed app q c v) (sym x.raised.point) (old.allowed c v lt before)
            | inr new ↦ subst (λ (q : Point). IsAllowed app q c v) (sym (x.raised.point ∙ x.at)) (proper.allowed c v lt new)
          ];
          filled = λ c lt. let f = old.filled c lt in record { value = f.value; member = x.raised.grows.each c f.value f.member };
        }

    -- a new cell stands for the row
    new_row : (cell : Cell PlainEntry) → IsNewCell row.point row.entry cell → row ≡ row_of cell
    new_row cell x = λ i. record { point = sym x.at i; entry = sym x.is i }

    proper_after : (cell : Cell PlainEntry) → Contains after cell → IsProperRow app (row_of cell)
    proper_after cell h = elim (joined.from cell h) [
      | inl stays ↦ proper_cells.each cell stays
      | inr (inl new) ↦ subst (IsProperRow app) (new_row cell new) proper
      | inr (inr raised) ↦ raised_proper cell raised
    ]

    -- a table that has the cells and the row has the cells after
    cell_least : (other : Sets) → IsContained (sets_in cells) other → IsRowIn other row → (cell : Cell PlainEntry) → Contains after cell → IsRowIn other (row_of cell)
    cell_least other old new cell h = elim (joined.from cell h) [
      | inl stays ↦ contained_row (sets_in cells) other (row_of cell) old (cell_in cells cell stays)
      | inr (inl x) ↦ subst (IsRowIn other) (new_row cell x) new
      | inr (inr x) ↦
          (let before = contained_row (sets_in cells) other (row_of x.old) old (cell_in cells x.old x.among) in
          record {
            entry = subst (λ (q : Point). IsTrue (other.entry q)) (sym x.raised.point) before.entry;
            has = λ c v m. elim (of_two x.old.entry row.entry cell.entry x.raised.least c v m) [
              | inl was ↦ subst (λ (q : Point). IsTrue (other.has q c v)) (sym x.raised.point) (before.has c v was)
              | inr came ↦ subst (λ (q : Point). IsTrue (other.has q c v)) (sym (x.raised.point ∙ x.at)) (new.has c v came)
            ];
          })
    ]

    row_is : (other : TableRow) → Contains (row ∷ []) other → row ≡ other
    row_is other h = elim (Contains-push_cases [] row other h) [ inl none ↦ absurd (omega (arith, none.1)) | inr same ↦ same ]

    -- One row was joined.
    pub joined_one : AreJoined app cells (row ∷ []) after
    joined_one = record {
      cells_proper = record { order = joined.order; each = proper_after };
      evaluated = joined.evaluated;
      known = joined.known;
      grows = cells_contained cells (sets_in after) (λ cell h. lower_in cell.point cell.entry (joined.grows cell h));
      joins = λ other h. subst (IsRowIn (sets_in after)) (row_is other h) (lower_in row.point row.entry joined.joins);
      least = λ other old new. cells_contained after other (cell_least other old (new row (Contains-push [] row)));
      counts = joined.counts;
      sizes = joined.sizes;
    }

module _ (app : App) where
  pub joined_none : (cells : List (Cell PlainEntry)) → AreProperCells app cells → AreJoined app cells [] cells
  joined_none cells proper_cells = record {
    cells_proper = proper_cells;
    evaluated = λ cell h entry was. record { cell = cell; among = h; at = refl; evaluated = was };
    known = λ cell h exits is. record { cell = cell; among = h; at = refl; is = refl; knows = is };
    grows = contained_itself (sets_in cells);
    joins = λ row h. absurd (omega (arith, h.1));
    least = λ other old new. old;
    counts = omega arith;
    sizes = omega arith;
  }

  pub joined_then : (cells now after : List (Cell PlainEntry)) (first next : List TableRow) → AreJoined app cells first now → AreJoined app now next after → AreJoined app cells (first ++ next) after
  joined_then cells now after first next so_far more = record {
    cells_proper = more.cells_proper;
    evaluated = λ cell h entry was.
        (let then = more.evaluated cell h entry was in
        let old = so_far.evaluated then.cell then.among entry then.evaluated in
        record { cell = old.cell; among = old.among; at = old.at ∙ then.at; evaluated = old.evaluated });
    known = λ cell h exits is.
        (let then = more.known cell h exits is in
        let old = so_far.known then.cell then.among exits then.knows in
        record { cell = old.cell; among = old.among; at = old.at ∙ then.at; is = old.is ∙ then.is; knows = old.knows });
    grows = contained_onward (sets_in cells) (sets_in now) (sets_in after) so_far.grows more.grows;
    joins = λ other h. elim (among_cases other first next (contained_among (first ++ next) other h)) [
      | inl old ↦ contained_row (sets_in now) (sets_in after) other more.grows (so_far.joins other (among_contained first other old))
      | inr new ↦ more.joins other (among_contained next other new)
    ];
    least = λ other old new.
        more.least other (so_far.least other old (λ r h. new r (among_contained (first ++ next) r (among_left r first next (contained_among first r h)))))
        (λ r h. new r (among_contained (first ++ next) r (among_right r first next (contained_among next r h))));
    counts = omega (arith, so_far.counts, more.counts);
    sizes = omega (arith, so_far.sizes, more.sizes);
  }
