-- The least table of an application is written in one way.
use Rattle.std.proofs.Common.{◌≡◌, ◌<◌, sym, subst, ◌∙◌, IsTrue, arith}
use Rattle.std.specs.Prelude.{Contains}
use Rattle.osek_standard.specs.declared.app.App.{App}
use Rattle.abstract_state.specs.{declared.table.{TableRow.{TableRow}, PlainTable.{PlainTable}}, Domains.{IsBelow}, Tables.{Sets, sets_of, HasRow}, Written.{IsWritten}}
use Rattle.abstract_state.proofs.{ContainmentLaws.{one_least}, EqualityLaws.{written_entry}, LatticeLaws.{equal_entries}}
use Rattle.numbered_sets.proofs.WrittenRows.{row_number, rows_ascend, row_there, row_entered, row_value, only_there}
use Rattle.commands.specs.OneText.{OneTableIsWritten}
use Rattle.commands.proofs.InOrder.{one_in_order}

module _ (app : App) where
  module _ (a b : PlainTable) (first : IsWritten app a) (other : IsWritten app b) (same : sets_of a ≡ sets_of b) (row : TableRow) (listed : Contains a.rows row) where
    below_found : (found : TableRow) → Contains b.rows found → found.point ≡ row.point → IsBelow row.entry found.entry
    below_found found among at = record {
      each = λ c v m.
          let has = subst (λ (t : Sets). IsTrue (t.has row.point c v)) same (row_value app a first row listed c v m) in
          only_there app b other found among c v (subst (λ q. IsTrue ((sets_of b).has q c v)) (sym at) has);
    }

    row_found : HasRow b row.point
    row_found = (written_entry b row.point).0 (subst (λ (t : Sets). IsTrue (t.entry row.point)) same (row_entered app a first row listed))

  row_in : (a b : PlainTable) → IsWritten app a → IsWritten app b → sets_of a ≡ sets_of b → (row : TableRow) → Contains a.rows row → Contains b.rows row
  row_in a b first other same row listed =
      let r = row_found a b first other same row listed in
      let one = row_there app a first row listed in
      let two = row_there app b other r.row r.among in
      let entries : row.entry ≡ r.row.entry = equal_entries row.entry r.row.entry one.sound two.sound (one.domains ∙ sym two.domains)
      (below_found a b first other same row listed r.row r.among r.point)
      (below_found b a other first (sym same) r.row r.among row listed (sym r.point)) in
      let rows : r.row ≡ row = (λ i. record { point = r.point i; entry = sym entries i }) in
      subst (Contains b.rows) rows r.among

  pub one_written : (a b : PlainTable) → IsWritten app a → IsWritten app b → sets_of a ≡ sets_of b → a ≡ b
  one_written a b first other same =
      let rows = one_in_order (λ (x y : TableRow). row_number x < row_number y) (λ x y h k. omega (arith, h, k)) a.rows b.rows (rows_ascend app a first) (rows_ascend app b other)
      (row_in a b first other same) (row_in b a other first (sym same)) in
      λ i. record { rows = rows i }

pub one_table : OneTableIsWritten
one_table app a b x y = one_written app a b x.written y.written (one_least app (sets_of a) (sets_of b) x.least y.least)
