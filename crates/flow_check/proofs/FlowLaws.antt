-- The rows of a table one after another: whether the steps from the first ones stay in it, and what is found over them.
use Rattle.std.proofs.Common.{◌≡◌, ℕ, ◌+◌, ◌<◌, ◌≤◌, List, [], ◌∷◌, ◌++◌, length, map, take, get_or, IsTrue, sym, ap, subst, ◌∙◌, inl, inr, arith, All}
use Rattle.std.specs.{Prelude.{Contains}, declared.option.Option.{Option}}
use Rattle.std.proofs.lemmas.{Bool.{cases_lt, cases_order}, List.{get_or-map, get_or_default, length-map, take_all, take_more}}
use Rattle.osek_standard.specs.{declared.{app.App.{App}, point.Point.{Point}}, Points.{point_of, point_number}}
use Rattle.abstract_state.specs.{declared.table.{TableRow.{TableRow}, PlainTable.{PlainTable}}, Tables.{sets_of}}
use Rattle.abstract_state.proofs.EqualityLaws.{written_entry}
use Rattle.numbered_sets.specs.{declared.table.NumberedRow.{NumberedRow}, Pools.{Values, AreValues, IsLonger}, Views.{AreNumbersOf}}
use Rattle.numbered_sets.specs.PlainTables.{plain_row, plain_rows, plain_table}
use Rattle.numbered_sets.proofs.NumberingLaws.{longer_onward}
use Rattle.point_exits.specs.{declared.group.ExitGroup.{ExitGroup}, Groups.{all_exits, AreKnownGroups}, Rows.{IsProperRow}}
use Rattle.table_rows.specs.Rows.{number_of, AreRowsFrom, AreExitsOf}
use Rattle.table_rows.proofs.TableRows.{same_row_then, same_table, rows_grown, listed_plain, in_order, plain_proper}
use Rattle.flow_check.specs.{declared.{found.Findings.{Findings}}, Staying.{AreAllIn, IsSomeGroupOut}}
use Rattle.flow_check.specs.declared.flow.Flow.TheVariants as flow
use Rattle.flow_check.specs.{Outcomes.{AreFound}, Verdicts.{Leaves}, Flows.{StaysFrom, IsFlow}}
use Rattle.flow_check.proofs.StayLaws.{row_stays, row_leaves}

-- The steps from the first rows stay in the table, and this is found over them.
pub record HasPassed (app : App) (first pool : List Values) (rows : List NumberedRow) (k : ℕ) (sites : List (Option Findings)) : Type 0 where
  pub longer : IsLonger first pool
  pub found : AreFound app (take k (plain_rows first rows)) sites
  pub stay : (i : ℕ) (d : NumberedRow) → i < k → StaysFrom app (sets_of (plain_table first rows)) (get_or rows i d).point

module _ (app : App) (first : List Values) (rows : List NumberedRow) (from : AreRowsFrom app first rows) where
  abbrev table : PlainTable
  table = plain_table first rows

  -- the row of a point with an entry
  pub record RowAt (p : Point) : Type 0 where
    pub row : NumberedRow
    pub among : Contains rows row
    pub at : row.point ≡ p

  pub row_of : (p : Point) → IsTrue ((sets_of table).entry p) → RowAt p
  row_of p e =
      let r = (written_entry table p).0 e in
      let y = listed_plain first rows r.row r.among in
      record { row = y.0; among = y.1; at = sym (ap (λ (row : TableRow). row.point) y.2) ∙ r.point }

  module _ (pool : List Values) (longer : IsLonger first pool) (k : ℕ) (row : NumberedRow) (lt : k < length rows) (is : row ≡ get_or rows k row) where
    abbrev listed : Contains rows row
    listed = (k, lt, sym is)

    pub there : AreRowsFrom app pool rows
    there = rows_grown app first pool rows longer from

    pub numbers_there : AreNumbersOf pool row.entry
    numbers_there = there.known.each row listed

    pub proper_there : IsProperRow app (plain_row pool row)
    proper_there = plain_proper app pool rows there row listed

    -- the row is the next one of the table
    pub next_row : (after : List TableRow) → after ≡ take k (plain_rows first rows) ++ plain_row pool row ∷ [] → after ≡ take (k + 1) (plain_rows first rows)
    next_row after e =
        let f = plain_row first in
        let same : plain_row pool row ≡ f row = same_row_then first pool rows longer from.known row listed in
        let at : f row ≡ get_or (map f rows) k (plain_row pool row) = ap f is ∙ sym (get_or-map f rows k row (plain_row pool row) lt) in
        e ∙ ap (λ (x : TableRow). take k (plain_rows first rows) ++ x ∷ []) (same ∙ at)
        ∙ sym (take_more (plain_rows first rows) k (plain_row pool row) (omega (arith, lt, length-map rows f)))

    module _ (after : List Values) (on : IsLonger pool after) (groups : List ExitGroup) (of : AreExitsOf app (plain_row pool row) (all_exits after groups)) where
      abbrev later : IsLonger first after
      later = longer_onward first pool after longer on

      its_exits : AreExitsOf app (plain_row after row) (all_exits after groups)
      its_exits = subst (λ (r : TableRow). AreExitsOf app r (all_exits after groups)) (sym (same_row_then pool after rows on there.known row listed)) of

      pub stays_there : AreAllIn rows groups → StaysFrom app (sets_of table) row.point
      stays_there all =
          subst (λ (t : PlainTable). StaysFrom app (sets_of t) row.point) (same_table first after rows later from.known)
          (row_stays app after rows (rows_grown app first after rows later from) row listed groups its_exits all)

      pub leaves_there : All AreValues after → AreKnownGroups after groups → IsSomeGroupOut rows groups → Leaves app (sets_of table) row.point
      leaves_there values known out =
          subst (λ (t : PlainTable). Leaves app (sets_of t) row.point) (same_table first after rows later from.known)
          (row_leaves app after rows (rows_grown app first after rows later from) row listed groups its_exits values known out)

    -- a step from it leaves the table, and none from a row before
    pub flow_leaves : ((i : ℕ) (d : NumberedRow) → i < k → StaysFrom app (sets_of table) (get_or rows i d).point) → Leaves app (sets_of table) row.point → IsFlow app table (flow.Leaves row.point)
    flow_leaves stay leaves = (
      λ p less l.
          (let r = row_of p (subst (λ (q : Point). IsTrue ((sets_of table).entry q)) l.at l.inside.entry) in
          let number : number_of r.row ≡ point_number p = ap point_number r.at in
          let here : number_of (get_or rows k r.row) ≡ number_of row = number_here r.row in
          elim (cases_lt r.among.0 k) [
            | inl before ↦ l.out (stay r.among.0 r.row before l.from l.event l.inside (l.at ∙ sym r.at ∙ sym (ap (λ (x : NumberedRow). x.point) r.among.2)))
            | inr from_here ↦ elim (cases_order k r.among.0) [
              | inl same ↦ absurd (omega (arith, less, number, here, ap (λ (j : ℕ). number_of (get_or rows j r.row)) same, ap number_of r.among.2))
              | inr (inl above) ↦ absurd (omega (arith, less, number, here, (in_order app first rows from).before k r.among.0 r.row above r.among.1, ap number_of r.among.2))
              | inr (inr below) ↦ absurd (omega (arith, below, from_here))
            ]
          ]),
      leaves,
    )
      where
        number_here : (d : NumberedRow) → number_of (get_or rows k d) ≡ number_of row
        number_here d = ap number_of (get_same d)
          where
            get_same : (d : NumberedRow) → get_or rows k d ≡ row
            get_same d = get_or_default rows k d row lt ∙ sym is

  -- all rows are passed
  pub flow_stays : (k : ℕ) (sites : List (Option Findings)) → length rows ≤ k → ((i : ℕ) (d : NumberedRow) → i < k → StaysFrom app (sets_of table) (get_or rows i d).point) → AreFound app (take k (plain_rows first rows)) sites
      → IsFlow app table (flow.Stays sites)
  flow_stays k sites whole stay found = (
    λ p s e i at.
        (let r = row_of (point_of s) i.entry in
        stay r.among.0 r.row (omega (arith, r.among.1, whole)) s e i (sym r.at ∙ sym (ap (λ (x : NumberedRow). x.point) r.among.2))),
    subst (λ (done : List TableRow). AreFound app done sites) (take_all k (plain_rows first rows) (omega (arith, whole, length-map rows (plain_row first)))) found,
  )
