-- The rows of a written table by number, in the order of their points, beside a pool that grows.
use Rattle.std.proofs.Common.{◌≡◌, ◌<◌, List, [], ◌∷◌, length, get_or, IsTrue, refl, sym, ap, ap₂, subst, ◌∙◌, inl, inr, arith}
use Rattle.std.specs.Prelude.{Contains}
use Rattle.std.proofs.lemmas.List.{length-map, get_or-map, get_or_default}
use Rattle.osek_standard.specs.{declared.{app.App.{App}, state.State.{State}, point.Point.{Point}}, Points.{point_of, point_number, IsPoint}}
use Rattle.osek_standard.specs.declared.point.Point.TheVariants as point
use Rattle.osek_standard.proofs.{Members.{Among, contained_among, among_contained, among_map, map_among}, PointLaws.{one_number}}
use Rattle.abstract_state.specs.declared.{table.{TableRow.{TableRow}, PlainTable.{PlainTable}}}
use Rattle.abstract_state.specs.{Components.{abstract_of}, Domains.{domains_of}, Tables.{In, sets_of}, Written.{IsWritten}}
use Rattle.flow_model.specs.Effects.{IsAt}
use Rattle.numbered_sets.specs.{declared.table.NumberedRow.{NumberedRow}, Pools.{Values, pool_domains, IsLonger}}
use Rattle.numbered_sets.specs.PlainTables.{row_at, plain_row, plain_rows, plain_table, AreRowsOf}
use Rattle.numbered_sets.proofs.ViewLaws.{same_view, still_known}
use Rattle.numbered_sets.proofs.WrittenRows.{rows_ascend, row_there, row_entered, row_value, only_there, row_allowed, row_filled, number_domains_of}
use Rattle.point_exits.specs.Rows.{IsProperRow}
use Rattle.table_rows.specs.{Order.{AscendBy}, Rows.{number_of, AreRowsFrom}}

-- ---- by value

module _ (app : App) (table : PlainTable) (written : IsWritten app table) (row : TableRow) (listed : Contains table.rows row) where
  pub row_proper : IsProperRow app row
  row_proper = record { row = row_there app table written row listed; allowed = row_allowed app table written row listed; filled = λ c lt. let some = row_filled app table written row listed c lt in record { value = some.0; member = some.1 } }

  -- a state in the table at the point is one of the row, and the other way round
  pub in_row : (s : State) → In app (sets_of table) s → point_of s ≡ row.point → IsAt app row.point row.entry s
  in_row s i at = record {
    well = i.well;
    regular = i.regular;
    point = at;
    within = λ c lt. only_there app table written row listed c (abstract_of app s c) (subst (λ (p : Point). IsTrue ((sets_of table).has p c (abstract_of app s c))) at (i.within c lt));
  }

  pub row_in : (s : State) → IsAt app row.point row.entry s → In app (sets_of table) s
  row_in s h = record {
    well = h.well;
    regular = h.regular;
    entry = subst (λ (p : Point). IsTrue ((sets_of table).entry p)) (sym h.point) (row_entered app table written row listed);
    within = λ c lt. subst (λ (p : Point). IsTrue ((sets_of table).has p c (abstract_of app s c))) (sym h.point) (row_value app table written row listed c (abstract_of app s c) (h.within c lt));
  }

-- ---- by number

-- the rows mean the same beside a pool that grew
same_rows : (pool after : List Values) → IsLonger pool after → (rows : List NumberedRow) → ((row : NumberedRow) → Among row rows → plain_row after row ≡ plain_row pool row) → plain_rows after rows ≡ plain_rows pool rows
same_rows pool after longer [] h = refl
same_rows pool after longer (x ∷ xs) h = ap₂ (λ (y : TableRow) (ys : List TableRow). y ∷ ys) (h x (inl refl)) (same_rows pool after longer xs (λ y m. h y (inr m)))

module _ (pool after : List Values) (rows : List NumberedRow) (longer : IsLonger pool after) (known : AreRowsOf pool rows) where
  pub same_row_then : (row : NumberedRow) → Contains rows row → plain_row after row ≡ plain_row pool row
  same_row_then row m = ap (row_at row.point) (same_view pool after row.entry longer (known.each row m))

  pub same_table : plain_table after rows ≡ plain_table pool rows
  same_table = (let same = same_rows pool after longer rows (λ row m. same_row_then row (among_contained rows row m)) in λ i. record { rows = same i })

  pub rows_still_known : AreRowsOf after rows
  rows_still_known = record { each = λ row m. still_known pool after row.entry longer (known.each row m) }

pub rows_grown : (app : App) (pool after : List Values) (rows : List NumberedRow) → IsLonger pool after → AreRowsFrom app pool rows → AreRowsFrom app after rows
rows_grown app pool after rows longer from = record {
  known = rows_still_known pool after rows longer from.known;
  written = subst (IsWritten app) (sym (same_table pool after rows longer from.known)) from.written;
}

pub plain_listed : (pool : List Values) (rows : List NumberedRow) (row : NumberedRow) → Contains rows row → Contains (plain_rows pool rows) (plain_row pool row)
plain_listed pool rows row m = among_contained (plain_rows pool rows) (plain_row pool row) (among_map (plain_row pool) row rows (contained_among rows row m))

pub listed_plain : (pool : List Values) (rows : List NumberedRow) (row : TableRow) → Contains (plain_rows pool rows) row → (x : NumberedRow) × Contains rows x × (row ≡ plain_row pool x)
listed_plain pool rows row m =
    let x = map_among (plain_row pool) row rows (contained_among (plain_rows pool rows) row m) in
    (x.0, among_contained rows x.0 x.1, x.2)

module _ (app : App) (pool : List Values) (rows : List NumberedRow) (from : AreRowsFrom app pool rows) where
  pub in_order : AscendBy number_of rows
  in_order = record {
    before = λ i j d lt below.
        (let long = length-map rows (plain_row pool) in
        let less = rows_ascend app (plain_table pool rows) from.written i j (plain_row pool d) lt (omega (arith, below, long)) in
        omega (arith, less, ap (λ (r : TableRow). point_number r.point) (get_or-map (plain_row pool) rows i d (plain_row pool d) (omega (arith, lt, below))), ap (λ (r : TableRow). point_number r.point) (get_or-map (plain_row pool) rows j d (plain_row pool d) below)));
  }

  module _ (row : NumberedRow) (listed : Contains rows row) where
    pub plain_proper : IsProperRow app (plain_row pool row)
    plain_proper = row_proper app (plain_table pool rows) from.written (plain_row pool row) (plain_listed pool rows row listed)

    pub pool_is : pool_domains pool ≡ domains_of app
    pool_is = sym (from.known.each row listed).domains ∙ number_domains_of app pool row plain_proper.row

    -- a row with the number of a point is the point's
    pub row_point : (p : Point) → IsPoint app p → number_of row ≡ point_number p → row.point ≡ p
    row_point p point same = one_number app row.point p plain_proper.row.point point same

  pub first_listed : 0 < length rows → (d : NumberedRow) → Contains rows (get_or rows 0 d)
  first_listed some d = (0, some, get_or_default rows 0 (get_or rows 0 d) d some)

  -- so a pool for the rows, if there are any, is one for the application's components
  pub pool_alike : 0 < length rows → pool_domains pool ≡ domains_of app
  pool_alike some =
      let none : NumberedRow = record { point = point.Halted; entry = record { sets = [] } } in
      pool_is (get_or rows 0 none) (first_listed some none)
