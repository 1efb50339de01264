use Rattle.std.proofs.{Common.{◌≡◌, ℕ, inl, inr, sym, subst, arith}, lemmas.Bool.{cases_lt, OnTrue_at, OnFalse_at}}
use Rattle.osek_values.specs.{Numbers.{mode_no}}
use Rattle.osek_standard.specs.Kernel.{start}
use Rattle.abstract_state.specs.{declared.table.PlainTable.{PlainTable}, Tables.{In, sets_of}}
use Rattle.numbered_sets.specs.PlainTables.{plain_table}
use Rattle.numbered_sets.proofs.NumberingLaws.{longer_itself, longer_onward}
use Rattle.table_rows.proofs.TableRows.{same_table, rows_grown}
use Rattle.flow_check.proofs.starting.first_start_out.Goals as goal

pub loop-mode-init : goal.loop-mode-init
loop-mode-init c = record { longer = longer_itself c.args.pool.now; starts = λ m lt. absurd (omega (arith, lt)) }

pub is_start_in-requires-clause-rows : goal.is_start_in-requires-clause-rows
is_start_in-requires-clause-rows c = rows_grown c.args.app.now c.args.pool.now c.loop-mode.pool c.args.rows.now c.loop-mode.invariant.longer c.requires.rows

pub loop-mode-preserved : goal.loop-mode-preserved
loop-mode-preserved c =
    let app = c.args.app.now in
    let first = c.args.pool.now in
    let rows = c.args.rows.now in
    let here = c.loop-mode.mode in
    let same = same_table first c.loop-mode.pool rows c.loop-mode.invariant.longer c.requires.rows.known in
    record {
      longer = longer_onward first c.loop-mode.pool c.is_start_in.new.pool c.loop-mode.invariant.longer c.is_start_in.ensures.pool;
      starts = λ m below. elim (cases_lt m.0 here) [
        | inl lt ↦ c.loop-mode.invariant.starts m lt
        | inr le ↦
            (let is : m.0 ≡ here = omega (arith, le, below) in
            let inside = subst (λ (t : PlainTable). In app (sets_of t) (start app (mode_no here)).state) same (OnTrue_at c.if-not-is_in.false c.in_ok-is_in.ensures.within) in
            subst (λ (n : ℕ). In app (sets_of (plain_table first rows)) (start app (mode_no n)).state) (sym is) inside)
      ];
    }

pub returns-then-not-is_in-clause-out : goal.returns-then-not-is_in-clause-out
returns-then-not-is_in-clause-out c =
    let app = c.args.app.now in
    let first = c.args.pool.now in
    let rows = c.args.rows.now in
    let here = c.loop-mode.mode in
    let same = same_table first c.loop-mode.pool rows c.loop-mode.invariant.longer c.requires.rows.known in
    record {
      mode = omega (arith, c.loop-mode-test.true, c.len-mode-end.ensures);
      before = c.loop-mode.invariant.starts;
      out = subst (λ (t : PlainTable). In app (sets_of t) (start app (mode_no here)).state → ⊥) same (OnFalse_at c.if-not-is_in.true c.in_ok-is_in.ensures.out);
    }

pub returns-then-not-is_in-clause-pool : goal.returns-then-not-is_in-clause-pool
returns-then-not-is_in-clause-pool c = longer_onward c.args.pool.now c.loop-mode.pool c.is_start_in.new.pool c.loop-mode.invariant.longer c.is_start_in.ensures.pool

pub returns-in_err-is_in-clause-pool : goal.returns-in_err-is_in-clause-pool
returns-in_err-is_in-clause-pool c = longer_onward c.args.pool.now c.loop-mode.pool c.is_start_in.new.pool c.loop-mode.invariant.longer c.is_start_in.ensures.pool

pub returns-clause-starts : goal.returns-clause-starts
returns-clause-starts c = λ m lt. c.loop-mode.invariant.starts m (omega (arith, lt, c.loop-mode-test.false, c.len-mode-end.ensures))
