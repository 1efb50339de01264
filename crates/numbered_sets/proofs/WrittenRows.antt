-- The rows of a written table: where they stand, and which values they have.
use Rattle.std.proofs.Common.{◌≡◌, ℕ, ◌-◌, ◌<◌, ◌≤◌, List, [], ◌∷◌, length, map, get_or, IsTrue, refl, sym, ap, subst, ◌∙◌, inl, inr, arith}
use Rattle.std.specs.Prelude.{Contains}
use Rattle.std.proofs.lemmas.{Bool.{cases_lt, cases_order}, List.{get_or-map, get_or_default, length-map}, Map.Keys.{below_from_sorted}}
use Rattle.std.proofs.lemmas.Map.Views.{Contains-from_any, list_any-from_Contains}
use Rattle.osek_standard.specs.{declared.app.App.{App}, Points.{point_number}}
use Rattle.abstract_state.specs.declared.{value.{Domain.{Domain}, PartValue.{PartValue}}, table.{TableRow.{TableRow}, PlainTable.{PlainTable}}}
use Rattle.abstract_state.specs.{Components.{components, component_count, IsAllowed}, Domains.{domain_of, domains_of}, Tables.{set_at, is_member, sets_of}}
use Rattle.abstract_state.specs.Written.{IsRow, IsWritten}
use Rattle.abstract_state.proofs.{ComponentLaws.{task_counted}, EqualityLaws.{written_entry, written_value}, OrderLaws.{part_right, part_laws}}
use Rattle.numbered_sets.specs.{NumberedEntries.{number_domains}, Pools.{Values, pool_domains}, Views.{AreNumbersOf}}
use Rattle.numbered_sets.proofs.ViewLaws.{same_domains}
use Rattle.numbered_sets.specs.{declared.table.NumberedRow.{NumberedRow}, PlainTables.{plain_row, AreRowsFor}}

abbrev pub row_number : TableRow → ℕ
row_number row = point_number row.point

module _ (app : App) (table : PlainTable) (written : IsWritten app table) where
  -- they stand in the order of their points
  pub rows_ascend : (i j : ℕ) (d : TableRow) → i < j → j < length table.rows → row_number (get_or table.rows i d) < row_number (get_or table.rows j d)
  rows_ascend i j d lt below =
      let less = below_from_sorted (map row_number table.rows) i j 0 written.ascending lt (omega (arith, below, length-map table.rows row_number)) in
      omega (arith, less, get_or-map row_number table.rows i d 0 (omega (arith, lt, below)), get_or-map row_number table.rows j d 0 below)

  -- so no two stand at one point
  pub same_row : (x y : TableRow) → Contains table.rows x → Contains table.rows y → x.point ≡ y.point → x ≡ y
  same_row x y h k e =
      let at_y : get_or table.rows k.0 x ≡ y = get_or_default table.rows k.0 x y k.1 ∙ k.2 in
      let numbers : row_number x ≡ row_number y = ap point_number e in
      elim (cases_order h.0 k.0) [
        | inl same ↦ (sym h.2 ∙ ap (λ (n : ℕ). get_or table.rows n x) same ∙ at_y)
        | inr (inl below) ↦ absurd (omega (arith, rows_ascend h.0 k.0 x below k.1, ap row_number h.2, ap row_number at_y, numbers))
        | inr (inr above) ↦ absurd (omega (arith, rows_ascend k.0 h.0 x above h.1, ap row_number h.2, ap row_number at_y, numbers))
      ]

  module _ (row : TableRow) (listed : Contains table.rows row) where
    pub row_there : IsRow app row
    row_there = subst (IsRow app) listed.2 (written.rows listed.0 row listed.1)

    pub row_entered : IsTrue ((sets_of table).entry row.point)
    row_entered = (written_entry table row.point).1 (record { row = row; among = listed; point = refl })

    pub row_value : (c : ℕ) (v : PartValue) → IsTrue (is_member (set_at row.entry c) v) → IsTrue ((sets_of table).has row.point c v)
    row_value c v m = (written_value table row.point c v).1 (record { row = row; among = listed; point = refl; member = Contains-from_any part_right v (set_at row.entry c).members m })

    -- what the table has at the row's point, the row has
    pub only_there : (c : ℕ) (v : PartValue) → IsTrue ((sets_of table).has row.point c v) → IsTrue (is_member (set_at row.entry c) v)
    only_there c v m =
        let x = (written_value table row.point c v).0 m in
        subst (λ (y : TableRow). IsTrue (is_member (set_at y.entry c) v)) (same_row x.row row x.among listed x.point) (list_any-from_Contains part_laws v (set_at x.row.entry c).members x.member)

    pub row_allowed : (c : ℕ) (v : PartValue) → c < component_count app → IsTrue (is_member (set_at row.entry c) v) → IsAllowed app row.point c v
    row_allowed c v lt m = written.proper.allowed row.point c v (row_value c v m)

    pub row_filled : (c : ℕ) → c < component_count app → (v : PartValue) × IsTrue (is_member (set_at row.entry c) v)
    row_filled c lt = (let some = written.proper.filled row.point c row_entered lt in (some.0, only_there c some.0 some.1))

-- ---- by number

-- a numbered row has a set for each component
pub number_domains_of : (app : App) (pool : List Values) (row : NumberedRow) → IsRow app (plain_row pool row) → number_domains row.entry ≡ domains_of app
number_domains_of app pool row is = sym (same_domains pool 0 row.entry.sets) ∙ is.domains

-- the tasks are among the components
tasks_counted : (app : App) → length app.tasks ≤ component_count app
tasks_counted app = elim (cases_lt 0 (length app.tasks)) [
  | inl some ↦ (let last = task_counted app (length app.tasks - 1) (omega (arith, some)) in omega (arith, last, some))
  | inr none ↦ omega (arith, none)
]

-- so a pool of which a row has numbers has values for each task
row_pool : (app : App) (pool : List Values) (row : NumberedRow) → AreNumbersOf pool row.entry → IsRow app (plain_row pool row) → length app.tasks ≤ length pool
row_pool app pool row known is =
    let same : pool_domains pool ≡ domains_of app = sym known.domains ∙ number_domains_of app pool row is in
    let count : length pool ≡ component_count app = sym (length-map pool (λ (x : Values). x.domain)) ∙ ap (λ (ds : List Domain). length ds) same ∙ length-map (components app) (domain_of app) in
    omega (arith, tasks_counted app, count)

pub pool_has_tasks : (app : App) (table : PlainTable) → IsWritten app table → (pool : List Values) (rows : List NumberedRow) → AreRowsFor table.rows pool rows → 0 < length rows → length app.tasks ≤ length pool
pool_has_tasks app table written pool [] are some = absurd (omega (arith, some))
pool_has_tasks app table written pool (x ∷ xs) are some =
    let first : Contains (map (plain_row pool) (x ∷ xs)) (plain_row pool x) = (0, omega arith, refl) in
    row_pool app pool x (are.known.each x (0, omega arith, refl)) (row_there app table written (plain_row pool x) (subst (λ (rs : List TableRow). Contains rs (plain_row pool x)) are.same first))
