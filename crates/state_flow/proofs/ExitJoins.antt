-- The rows of exits, joined to the cells one after another.
use Rattle.std.proofs.Common.{◌≡◌, ℕ, ◌+◌, ◌<◌, List, [], ◌∷◌, ◌++◌, length, get_or, take, map, refl, sym, ap, ap₂, subst, ◌∙◌}
use Rattle.std.specs.Prelude.{Contains}
use Rattle.std.proofs.lemmas.{List.{take_more, map-append, append-nil, Elements.{Contains-get_or}}, Grind.{flat_map-append}}
use Rattle.osek_standard.specs.declared.{app.App.{App}, point.Point.{Point}}
use Rattle.osek_standard.proofs.Members.{among_contained, contained_among, among_map, among_flat_map}
use Rattle.abstract_state.specs.declared.table.TableRow.{TableRow}
use Rattle.numbered_sets.specs.{declared.numbered_entry.NumberedEntry.{NumberedEntry}, Pools.{Values}, Views.{plain_entry}, PlainTables.{row_at}}
use Rattle.flow_exits.specs.declared.exit.Exit.{Exit}
use Rattle.point_exits.specs.declared.group.{NumberEnd.{NumberEnd}, Ends.{Ends}, ExitGroup.{ExitGroup}}
use Rattle.point_exits.specs.declared.group.Ends.TheVariants as ends
use Rattle.point_exits.specs.Groups.{with_end, exits_by, exits_of, all_exits}
use Rattle.state_flow.specs.declared.cells.Cell.{Cell}
use Rattle.point_exits.specs.Rows.{IsProperRow}
use Rattle.state_flow.proofs.JoinedRows.{joined_none, joined_then}
use Rattle.state_flow.specs.{PlainCells.{plain_cells}, Numbering.{AreNumberedCells}, ExitRows.{rows_at, end_row, rows_with, rows_by, all_rows, AreProperRows, AreRowsJoined}}

module _ (app : App) (pool : List Values) where
  pub joined_nothing : (cells : List (Cell NumberedEntry)) → AreNumberedCells app pool cells → AreRowsJoined app pool cells [] cells
  joined_nothing cells h = record { known = h.known; joined = joined_none app (plain_cells pool cells) h.proper }

  pub joined_more : (a b c : List (Cell NumberedEntry)) (rows more : List TableRow) → AreRowsJoined app pool a rows b → AreRowsJoined app pool b more c → AreRowsJoined app pool a (rows ++ more) c
  joined_more a b c rows more x y = record { known = y.known; joined = joined_then app (plain_cells pool a) (plain_cells pool b) (plain_cells pool c) rows more x.joined y.joined }

  -- the cells after are fit for more
  pub cells_after : (cells now : List (Cell NumberedEntry)) (rows : List TableRow) → AreRowsJoined app pool cells rows now → AreNumberedCells app pool now
  cells_after cells now rows h = record { known = h.known; proper = h.joined.cells_proper }

-- the rows of one more
abbrev pub point_row : List Values → NumberedEntry → Point → TableRow
point_row pool entry p = row_at p (plain_entry pool entry)

pub map_more : {X : Type 0} (f : X → TableRow) (items : List X) (i : ℕ) (x : X) → i < length items → x ≡ get_or items i x → map f (take i items) ++ f x ∷ [] ≡ map f (take (i + 1) items)
map_more f items i x lt e = sym (ap (map f) (take_more items i x lt ∙ ap (λ y. take i items ++ y ∷ []) (sym e)) ∙ map-append f (take i items) (x ∷ []))

pub point_more : (pool : List Values) (entry : NumberedEntry) (items : List Point) (i : ℕ) (p : Point) → i < length items → p ≡ get_or items i p → rows_at pool entry (take i items) ++ point_row pool entry p ∷ [] ≡ rows_at pool entry (take (i + 1) items)
point_more pool entry items i p lt e = map_more (point_row pool entry) items i p lt e

pub end_more : (pool : List Values) (entry : NumberedEntry) (items : List NumberEnd) (i : ℕ) (x : NumberEnd) → i < length items → x ≡ get_or items i x → rows_with pool entry (take i items) ++ end_row pool entry x ∷ [] ≡ rows_with pool entry (take (i + 1) items)
end_more pool entry items i x lt e = map_more (end_row pool entry) items i x lt e

pub listed_item : {X : Type 0} (items : List X) (i : ℕ) (x : X) → i < length items → x ≡ get_or items i x → Contains items x
listed_item items i x lt e = subst (Contains items) (sym e) (Contains-get_or items i x lt)

pub point_proper : (app : App) (pool : List Values) (entry : NumberedEntry) (items : List Point) (i : ℕ) (p : Point) → i < length items → p ≡ get_or items i p → AreProperRows app (rows_at pool entry items) → IsProperRow app (point_row pool entry p)
point_proper app pool entry items i p lt e h =
    h (point_row pool entry p) (among_contained (rows_at pool entry items) (point_row pool entry p) (among_map (point_row pool entry) p items (contained_among items p (listed_item items i p lt e))))

pub end_proper : (app : App) (pool : List Values) (entry : NumberedEntry) (items : List NumberEnd) (i : ℕ) (x : NumberEnd) → i < length items → x ≡ get_or items i x → AreProperRows app (rows_with pool entry items) → IsProperRow app (end_row pool entry x)
end_proper app pool entry items i x lt e h =
    h (end_row pool entry x) (among_contained (rows_with pool entry items) (end_row pool entry x) (among_map (end_row pool entry) x items (contained_among items x (listed_item items i x lt e))))

pub end_listed : (items : List NumberEnd) (i : ℕ) (x : NumberEnd) → i < length items → x ≡ get_or items i x → Contains items x
end_listed items i x lt e = listed_item items i x lt e

-- ---- groups

abbrev pub group_rows : List Values → ExitGroup → List TableRow
group_rows pool g = rows_by pool g.entry g.ends

pub group_proper : (app : App) (pool : List Values) (groups : List ExitGroup) (g : ExitGroup) → Contains groups g → AreProperRows app (all_rows pool groups) → AreProperRows app (group_rows pool g)
group_proper app pool groups g m h row r =
    h row (among_contained (all_rows pool groups) row (among_flat_map (group_rows pool) g row groups (contained_among groups g m) (contained_among (group_rows pool g) row r)))

pub groups_more : (pool : List Values) (done : List ExitGroup) (g : ExitGroup) → all_rows pool done ++ group_rows pool g ≡ all_rows pool (done ++ g ∷ [])
groups_more pool done g = sym (flat_map-append (group_rows pool) done (g ∷ []) ∙ ap (λ (rs : List TableRow). all_rows pool done ++ rs) (append-nil (group_rows pool g)))

-- the rows of groups are those of their exits
abbrev pub its_row : Exit → TableRow
its_row x = row_at x.target x.entry

map_twice : {X : Type 0} (f : X → Exit) (xs : List X) → map its_row (map f xs) ≡ map (λ x. its_row (f x)) xs
map_twice f [] = refl
map_twice f (x ∷ xs) = ap (λ (rs : List TableRow). its_row (f x) ∷ rs) (map_twice f xs)

rows_of_ends : (pool : List Values) (g : ExitGroup) (e : Ends) → map its_row (exits_by pool g e) ≡ rows_by pool g.entry e
rows_of_ends pool g (ends.At points) = map_twice (λ (p : Point). record { target = p; decision = g.decision; status = g.status; entry = plain_entry pool g.entry }) points
rows_of_ends pool g (ends.With xs) = map_twice (λ (x : NumberEnd). record { target = x.target; decision = g.decision; status = g.status; entry = plain_entry pool (with_end g.entry x) }) xs

pub rows_of_exits : (pool : List Values) (groups : List ExitGroup) → map its_row (all_exits pool groups) ≡ all_rows pool groups
rows_of_exits pool [] = refl
rows_of_exits pool (g ∷ gs) = map-append its_row (exits_of pool g) (all_exits pool gs) ∙ ap₂ (λ (a b : List TableRow). a ++ b) (rows_of_ends pool g g.ends) (rows_of_exits pool gs)
