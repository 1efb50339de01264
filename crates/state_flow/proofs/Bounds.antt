-- Rows stand at different points, so there are no more of them than points, nor of their values than these times the height.
use Rattle.std.proofs.Common.{◌≡◌, ℕ, ◌+◌, ◌*◌, ◌<◌, ◌≤◌, List, length, map, get_or, IsTrue, sym, ap, subst, arith}
use Rattle.std.specs.{Prelude.{Contains}, List.{list_any}, Cmp.{IsEquivalence}, Ordering.{nat_cmp, eq_by_cmp}}
use Rattle.std.proofs.{Math.Nat.{mul-le-mul}, lemmas.{Cmp.{nat_cmp_total, eq_by_cmp_equiv}, List.{length-map, Sums.{sum_by-le}}, Map.Keys.{IsDistinct-from_sorted}}}
use Rattle.std.proofs.lemmas.Map.{Lookups.{exact_unsigned}, Made.{length-le_from_is_member}, Views.{Contains-from_any, list_any-from_Contains, tells_apart}}
use Rattle.osek_standard.specs.{declared.app.App.{App}, Counts.{points, height}, Points.{point_number, points_in_order, IsPoint}}
use Rattle.osek_standard.proofs.{Members.{among_map, map_among, contained_among, among_contained}, PointLaws.{are_points, points_counted}}
use Rattle.abstract_state.specs.{declared.table.{PlainEntry.{PlainEntry}, TableRow.{TableRow}, PlainTable.{PlainTable}}, Domains.{HasMasks}, Tables.{entry_values, value_count}}
use Rattle.abstract_state.specs.Written.{IsWritten}
use Rattle.abstract_state.proofs.{DomainValues.{domain_counted}, LatticeLaws.{most_values}, HeightLaws.{entry_height_is, sum_map}}
use Rattle.state_flow.specs.{declared.cells.Cell.{Cell}, Cells.{IsWaitingCell, NoneWaits}, Rows.{row_of, table_of}, Progress.{values_in, Progress}}
use Rattle.state_flow.proofs.{RowLaws.{written}, Closing.{room_left, counted_at_end}}

same_laws : IsEquivalence (eq_by_cmp nat_cmp)
same_laws = eq_by_cmp_equiv nat_cmp_total

abbrev number_of : TableRow → ℕ
number_of row = point_number row.point

module _ (app : App) (table : PlainTable) (written : IsWritten app table) where
  -- the number of a row is that of a point
  among_points : (n : ℕ) → IsTrue (list_any (eq_by_cmp nat_cmp n) (map number_of table.rows)) → IsTrue (list_any (eq_by_cmp nat_cmp n) (map point_number (points_in_order app)))
  among_points n h =
      let row = map_among number_of n table.rows (contained_among (map number_of table.rows) n (Contains-from_any (tells_apart exact_unsigned) n (map number_of table.rows) h)) in
      let at = among_contained table.rows row.0 row.1 in
      let point = ap (λ (x : TableRow). x.point) at.2 in
      let known = (written.rows at.0 row.0 at.1).point in
      let listed = (are_points app).each row.0.point (subst (λ (x : TableRow). IsPoint app x.point) at.2 known) in
      list_any-from_Contains same_laws n (map point_number (points_in_order app))
      (subst (Contains (map point_number (points_in_order app))) (sym row.2) (among_contained (map point_number (points_in_order app)) (number_of row.0) (among_map point_number row.0.point (points_in_order app) (contained_among (points_in_order app) row.0.point listed))))

  pub rows_few : length table.rows ≤ points app
  rows_few =
      let most = length-le_from_is_member same_laws (map number_of table.rows) (map point_number (points_in_order app)) (IsDistinct-from_sorted nat_cmp (map number_of table.rows) written.ascending) among_points in
      omega (arith, most, length-map table.rows number_of, length-map (points_in_order app) point_number, points_counted app)

  pub entry_few : HasMasks app → (i : ℕ) (d : TableRow) → i < length table.rows → entry_values (get_or table.rows i d).entry ≤ height app
  entry_few masks i d lt =
      let row = written.rows i d lt in
      let entry = (get_or table.rows i d).entry in
      omega (arith, most_values domain_counted entry row.sound, entry_height_is app masks entry row.domains)

  pub values_few : HasMasks app → value_count table ≤ points app * height app
  values_few masks =
      let sum = sum_by-le (λ (row : TableRow). entry_values row.entry) (height app) table.rows (entry_few masks) in
      omega (arith, sum, mul-le-mul {n₁ = length table.rows} {m₁ = height app} {n₂ = points app} {m₂ = height app} rows_few (omega arith))

-- so it is with the table of cells
pub values_same : (cells : List (Cell PlainEntry)) → value_count (table_of cells) ≡ values_in cells
values_same cells = sum_map (λ (row : TableRow). entry_values row.entry) row_of cells

-- while a cell waits, fewer evaluations were made than points and their values
pub room : (app : App) → HasMasks app → (cells : List (Cell PlainEntry)) (n place : ℕ) → Progress app cells n → IsWaitingCell cells place → n < points app + points app * height app
room app masks cells n place progress at =
    let whole = written app cells progress.cells_proper in
    omega (arith, room_left app cells n place progress at, rows_few app (table_of cells) whole, values_few app (table_of cells) whole masks, values_same cells, length-map cells row_of)

-- at the end each row was evaluated, and no more often than rows and values came in
pub rows_evaluated : (app : App) (cells : List (Cell PlainEntry)) (n : ℕ) → Progress app cells n → NoneWaits cells → length (map row_of cells) ≤ n
rows_evaluated app cells n progress none = omega (arith, (counted_at_end app cells n progress none).1, length-map cells row_of)

pub evaluations_few : (app : App) (cells : List (Cell PlainEntry)) (n : ℕ) → Progress app cells n → NoneWaits cells → n ≤ points app + value_count (table_of cells)
evaluations_few app cells n progress none =
    omega (arith, (counted_at_end app cells n progress none).0, rows_few app (table_of cells) (written app cells progress.cells_proper), values_same cells, length-map cells row_of)
