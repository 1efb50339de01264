-- The starts against the rows of a table.
use Rattle.std.proofs.Common.{◌≡◌, ◌<◌, Bool, true, false, List, length, IsTrue, sym, subst, inl, inr, All}
use Rattle.std.specs.{Prelude.{Contains}, Bool.{OnTrue, OnFalse}}
use Rattle.osek_values.specs.declared.numbers.ModeNo.{ModeNo}
use Rattle.osek_standard.specs.{declared.{app.App.{App}, state.State.{State}, point.Point.{Point}}, Kernel.{start}, Points.{point_of}}
use Rattle.osek_standard.proofs.StepKeeps.{start_is_well}
use Rattle.abstract_state.proofs.RegularLaws.{start_regular}
use Rattle.abstract_state.specs.declared.{value.PartValue.{PartValue}, table.{PlainEntry.{PlainEntry}, TableRow.{TableRow}, PlainTable.{PlainTable}}}
use Rattle.abstract_state.specs.{Components.{abstract_of}, Tables.{In, set_at, is_member, sets_of}}
use Rattle.numbered_sets.specs.{declared.{numbered_entry.NumberedEntry.{NumberedEntry}, table.NumberedRow.{NumberedRow}}, Pools.{Values, AreValues, IsLonger}}
use Rattle.numbered_sets.specs.{Views.{plain_entry, AreNumbersOf}, PlainTables.{row_at, plain_table}}
use Rattle.point_exits.specs.{Rows.{IsRowIn}, Starts.{entry_of, IsStartRow}}
use Rattle.point_exits.proofs.StartEntry.{entry_only}
use Rattle.table_rows.{specs.Rows.{AreRowsFrom}, proofs.TableRows.{same_table, rows_grown}}
use Rattle.flow_check.specs.Staying.{IsRowOut, end_at, IsIn, IsOut}
use Rattle.flow_check.proofs.StayLaws.{end_in, end_out}

-- what follows from a fact on true, or on false, does so on it
pub on_true : {P Q : Type 0} (b : Bool) → (P → Q) → OnTrue b P → OnTrue b Q
on_true true f h = f h
on_true false f h = tt

pub on_false : {P Q : Type 0} (b : Bool) → (P → Q) → OnFalse b P → OnFalse b Q
on_false true f h = tt
on_false false f h = f h

module _ (app : App) (mode : ModeNo) (known : mode.0 < length app.modes) (row : TableRow) (is : row ≡ row_at (point_of (start app mode).state) (entry_of app (start app mode).state)) (of : IsStartRow app mode row) (table : PlainTable) where
  abbrev state : State
  state = (start app mode).state

  start_in : IsRowIn (sets_of table) row → In app (sets_of table) state
  start_in h = record {
    well = start_is_well app mode known;
    regular = start_regular app mode known;
    entry = subst (λ (p : Point). IsTrue ((sets_of table).entry p)) (sym of.point) h.entry;
    within = λ c lt. subst (λ (p : Point). IsTrue ((sets_of table).has p c (abstract_of app state c))) (sym of.point) (h.has c (abstract_of app state c) (of.within c lt));
  }

  start_out : IsRowOut app (sets_of table) row → In app (sets_of table) state → ⊥
  start_out (inl none) i = none (subst (λ (p : Point). IsTrue ((sets_of table).entry p)) of.point i.entry)
  start_out (inr l) i =
      let only : l.value ≡ abstract_of app state l.component = entry_only app state l.component l.value l.known (subst (λ (r : TableRow). IsTrue (is_member (set_at r.entry l.component) l.value)) is l.member) in
      l.lacks
      (subst (λ (v : PartValue). IsTrue ((sets_of table).has row.point l.component v)) (sym only)
      (subst (λ (p : Point). IsTrue ((sets_of table).has p l.component (abstract_of app state l.component))) of.point (i.within l.component l.known)))

module _ (app : App) (pool after : List Values) (rows : List NumberedRow) (from : AreRowsFrom app pool rows) (longer : IsLonger pool after) (some : NumberedRow) (listed : Contains rows some) (mode : ModeNo) (known : mode.0 < length app.modes) (row : TableRow)
    (is : row ≡ row_at (point_of (start app mode).state) (entry_of app (start app mode).state)) (of : IsStartRow app mode row) (entry : NumberedEntry) (plain : plain_entry after entry ≡ row.entry) where
  pub start_told_in : IsIn rows (end_at row.point entry) → In app (sets_of (plain_table pool rows)) (start app mode).state
  start_told_in h =
      let there = end_in app after rows (rows_grown app pool after rows longer from) (end_at row.point entry) of.proper.row.point h in
      let here : IsRowIn (sets_of (plain_table after rows)) row = subst (λ (e : PlainEntry). IsRowIn (sets_of (plain_table after rows)) (row_at row.point e)) plain there in
      start_in app mode known row is of (plain_table pool rows) (subst (λ (t : PlainTable). IsRowIn (sets_of t) row) (same_table pool after rows longer from.known) here)

  pub start_told_out : All AreValues after → AreNumbersOf after entry → IsOut rows (end_at row.point entry) → In app (sets_of (plain_table pool rows)) (start app mode).state → ⊥
  start_told_out values numbers h =
      let there = end_out app after rows (rows_grown app pool after rows longer from) values some listed (end_at row.point entry) of.proper.row.point numbers h in
      let here : IsRowOut app (sets_of (plain_table after rows)) row = subst (λ (e : PlainEntry). IsRowOut app (sets_of (plain_table after rows)) (row_at row.point e)) plain there in
      start_out app mode known row is of (plain_table pool rows) (subst (λ (t : PlainTable). IsRowOut app (sets_of t) row) (same_table pool after rows longer from.known) here)
