use Rattle.std.proofs.Common.{◌∙◌, List, length, Option, sym, ap, subst}
use Rattle.std.specs.Prelude.{IfSome, IfNone}
use Rattle.osek_values.specs.declared.numbers.ModeNo.{ModeNo}
use Rattle.abstract_state.specs.Tables.{sets_of}
use Rattle.numbered_sets.specs.{PlainTables.{plain_table, AreRowsFor}}
use Rattle.flow_check.specs.{declared.{found.Findings.{Findings}}, Outcomes.{AreFound}, Flows.{IsFlow}, Verdicts.{StartsIn, IsFirstStartOut}}
use Rattle.table_rows.proofs.TableRows.{rows_grown}
use Rattle.flow_check.proofs.CheckLaws.{rows_from, first_out, left, inductive, all_found, kernel_by}
use Rattle.flow_check.proofs.checking.check.Goals as goal

pub first_start_out-requires-clause-rows : goal.first_start_out-requires-clause-rows
first_start_out-requires-clause-rows c =
    let table = c.args.table.now in
    let pool = c.in_ok-numbered.numbered.pool in
    let are = subst (AreRowsFor table.rows pool) (sym c.as_slice-rows.ensures) c.in_ok-numbered.ensures in
    rows_from c.args.image.now table c.requires pool c.as_slice-rows.result.now are

pub flow_of-requires-clause-rows : goal.flow_of-requires-clause-rows
flow_of-requires-clause-rows c =
    let table = c.args.table.now in
    let pool = c.in_ok-numbered.numbered.pool in
    let rows = c.as_slice-rows.result.now in
    let are = subst (AreRowsFor table.rows pool) (sym c.as_slice-rows.ensures) c.in_ok-numbered.ensures in
    rows_grown c.args.image.now.app pool c.first_start_out.new.pool rows c.in_ok-mode.ensures.pool (rows_from c.args.image.now table c.requires pool rows are)

pub returns-in-Some-clause-verdict : goal.returns-in-Some-clause-verdict
returns-in-Some-clause-verdict c =
    let i = c.args.image.now in
    let table = c.args.table.now in
    let pool = c.in_ok-numbered.numbered.pool in
    let rows = c.as_slice-rows.result.now in
    let are = subst (AreRowsFor table.rows pool) (sym c.as_slice-rows.ensures) c.in_ok-numbered.ensures in
    let out : IsFirstStartOut i.app (sets_of (plain_table pool rows)) c.in-Some.mode =
    subst (λ (x : Option ModeNo). IfSome x (IsFirstStartOut i.app (sets_of (plain_table pool rows)))) c.in-Some.is c.in_ok-mode.ensures.out in
    first_out i table c.requires pool rows are c.in-Some.mode out

pub returns-in-Leaves-clause-verdict : goal.returns-in-Leaves-clause-verdict
returns-in-Leaves-clause-verdict c =
    let i = c.args.image.now in
    let table = c.args.table.now in
    let pool = c.in_ok-numbered.numbered.pool in
    let rows = c.as_slice-rows.result.now in
    let are = subst (AreRowsFor table.rows pool) (sym c.as_slice-rows.ensures) c.in_ok-numbered.ensures in
    let starts : StartsIn i.app (sets_of (plain_table pool rows)) (length i.app.modes) =
    subst (λ (x : Option ModeNo). IfNone x (StartsIn i.app (sets_of (plain_table pool rows)) (length i.app.modes))) c.in_default.is c.in_ok-mode.ensures.starts in
    left i table c.requires pool rows are starts c.first_start_out.new.pool c.in_ok-mode.ensures.pool c.in-Leaves.point
    (subst (IsFlow i.app (plain_table c.first_start_out.new.pool rows)) c.in-Leaves.is c.in_ok-point.ensures)

pub verdict_by-requires : goal.verdict_by-requires
verdict_by-requires c =
    let i = c.args.image.now in
    let table = c.args.table.now in
    let pool = c.in_ok-numbered.numbered.pool in
    let rows = c.as_slice-rows.result.now in
    let are = subst (AreRowsFor table.rows pool) (sym c.as_slice-rows.ensures) c.in_ok-numbered.ensures in
    let starts : StartsIn i.app (sets_of (plain_table pool rows)) (length i.app.modes) =
    subst (λ (x : Option ModeNo). IfNone x (StartsIn i.app (sets_of (plain_table pool rows)) (length i.app.modes))) c.in_default.is c.in_ok-mode.ensures.starts in
    let after = c.first_start_out.new.pool in
    let stays = subst (IsFlow i.app (plain_table after rows)) c.in-Stays.is c.in_ok-point.ensures in
    ap (λ (sites : List (Option Findings)). length sites) c.as_slice.ensures ∙ (all_found i table c.requires pool rows are starts after c.in_ok-mode.ensures.pool c.in-Stays.found stays).count

pub returns-in-Stays-clause-verdict : goal.returns-in-Stays-clause-verdict
returns-in-Stays-clause-verdict c =
    let i = c.args.image.now in
    let table = c.args.table.now in
    let pool = c.in_ok-numbered.numbered.pool in
    let rows = c.as_slice-rows.result.now in
    let are = subst (AreRowsFor table.rows pool) (sym c.as_slice-rows.ensures) c.in_ok-numbered.ensures in
    let starts : StartsIn i.app (sets_of (plain_table pool rows)) (length i.app.modes) =
    subst (λ (x : Option ModeNo). IfNone x (StartsIn i.app (sets_of (plain_table pool rows)) (length i.app.modes))) c.in_default.is c.in_ok-mode.ensures.starts in
    let after = c.first_start_out.new.pool in
    let stays = subst (IsFlow i.app (plain_table after rows)) c.in-Stays.is c.in_ok-point.ensures in
    c.verdict_by.ensures table c.requires (inductive i table c.requires pool rows are starts after c.in_ok-mode.ensures.pool c.in-Stays.found stays)
    (subst (λ (sites : List (Option Findings)). AreFound i.app table.rows sites) (sym c.as_slice.ensures) (all_found i table c.requires pool rows are starts after c.in_ok-mode.ensures.pool c.in-Stays.found stays))

pub returns-in-Stays-clause-kernel : goal.returns-in-Stays-clause-kernel
returns-in-Stays-clause-kernel c =
    let i = c.args.image.now in
    let table = c.args.table.now in
    let pool = c.in_ok-numbered.numbered.pool in
    let rows = c.as_slice-rows.result.now in
    let are = subst (AreRowsFor table.rows pool) (sym c.as_slice-rows.ensures) c.in_ok-numbered.ensures in
    let starts : StartsIn i.app (sets_of (plain_table pool rows)) (length i.app.modes) =
    subst (λ (x : Option ModeNo). IfNone x (StartsIn i.app (sets_of (plain_table pool rows)) (length i.app.modes))) c.in_default.is c.in_ok-mode.ensures.starts in
    let after = c.first_start_out.new.pool in
    let stays = subst (IsFlow i.app (plain_table after rows)) c.in-Stays.is c.in_ok-point.ensures in
    let said = c.verdict_by.ensures table c.requires (inductive i table c.requires pool rows are starts after c.in_ok-mode.ensures.pool c.in-Stays.found stays)
    (subst (λ (sites : List (Option Findings)). AreFound i.app table.rows sites) (sym c.as_slice.ensures) (all_found i table c.requires pool rows are starts after c.in_ok-mode.ensures.pool c.in-Stays.found stays)) in
    kernel_by i table c.requires pool rows are c.verdict_by.result said
