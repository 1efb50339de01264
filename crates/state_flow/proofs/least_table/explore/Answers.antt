use Rattle.std.proofs.Common.{◌≡◌, ℕ, ◌∙◌, ◌+◌, ◌*◌, ◌<◌, ◌≤◌, List, length, sym, ap, subst, arith}
use Rattle.osek_standard.specs.{declared.app.App.{App}, Counts.{points, height}}
use Rattle.abstract_state.specs.{declared.table.PlainTable.{PlainTable}, Domains.{HasMasks}, Tables.{Least, sets_of, value_count}, Written.{IsWritten}}
use Rattle.numbered_sets.specs.{declared.numbered_entry.NumberedEntry.{NumberedEntry}, Pools.{Values}}
use Rattle.table_rows.specs.BareExits.{AreKnownExits}
use Rattle.state_flow.specs.{declared.cells.Cell.{Cell}, Cells.{IsWaitingCell, NoneWaits}, Rows.{table_of}}
use Rattle.state_flow.proofs.{RowLaws.{written}, Closing.{least_at_end}, Bounds.{room, values_few, rows_evaluated, evaluations_few}}
use Rattle.state_flow.specs.{PlainCells.{plain_cells}, Numbering.{AreNumberedCells, HasProgress}}
use Rattle.state_flow.proofs.{NumberedCells.{numbered_order, waits_plain, none_waits_plain}, CellRows.{rows_known, table_alike, exits_of_rows}}
use Rattle.state_flow.proofs.least_table.explore.Goals as goal

pub started-requires : goal.started-requires
started-requires g c = c.in_ok-pool.ensures

pub new-requires : goal.new-requires
new-requires g c = c.in_ok-cells.ensures.pool.domains ∙ c.in_ok-pool.ensures

pub loop-place-init : goal.loop-place-init
loop-place-init g c = (
  0,
  omega arith,
  subst (λ (pool : List Values). HasProgress c.args.app.now pool c.in_ok-cells.cells.list.items 0) (sym c.in_ok-numbering.ensures.pool) c.in_ok-cells.ensures.progress,
  c.in_ok-numbering.ensures.app,
)

pub next-requires : goal.next-requires
next-requires g c = numbered_order c.loop-place.numbering.pool c.loop-place.cells.list.items c.loop-place.invariant.2.progress.cells_proper.order

-- which cell is next changes none
kept : {app : App} {pool : List Values} {cells now : List (Cell NumberedEntry)} {n : ℕ} → now ≡ cells → HasProgress app pool cells n → HasProgress app pool now n
kept {app} {pool} {cells} {now} {n} same h = subst (λ (xs : List (Cell NumberedEntry)). HasProgress app pool xs n) (sym same) h

pub turn-requires-clause-masks : goal.turn-requires-clause-masks
turn-requires-clause-masks g c = subst HasMasks (sym c.loop-place.invariant.3) c.masks_are_few.ensures

pub turn-requires-clause-cells : goal.turn-requires-clause-cells
turn-requires-clause-cells g c =
    let progress = kept c.next.ensures.same c.loop-place.invariant.2 in
    subst (λ (own : App). AreNumberedCells own c.loop-place.numbering.pool c.next.new.self.list.items) (sym c.loop-place.invariant.3)
    (record { known = progress.known; proper = progress.progress.cells_proper })

-- the cells after a turn, as those of the application
turned : (app own : App) (pool after : List Values) (cells end : List (Cell NumberedEntry)) (n : ℕ) → own ≡ app →
    ((k : ℕ) → HasProgress own pool cells k → HasProgress own after end (k + 1)) → HasProgress app pool cells n → HasProgress app after end (n + 1)
turned app own pool after cells end n same turn h =
    subst (λ (x : App). HasProgress x after end (n + 1)) same (turn n (subst (λ (x : App). HasProgress x pool cells n) (sym same) h))

pub loop-place-smaller : goal.loop-place-smaller
loop-place-smaller g c =
    let progress = kept c.next.ensures.same c.loop-place.invariant.2 in
    let cells = c.next.new.self.list.items in
    let pool = c.loop-place.numbering.pool in
    let waits : IsWaitingCell cells c.in-Some.place = c.in-Some.ensures.waits in
    let left : c.loop-place.invariant.0 < points c.args.app.now + points c.args.app.now * height c.args.app.now =
    room c.args.app.now c.masks_are_few.ensures (plain_cells pool cells) c.loop-place.invariant.0 c.in-Some.place progress.progress (waits_plain pool cells c.in-Some.place waits) in
    let steps = c.loop-place.invariant.1 in
    omega (arith, c.tick.ensures, steps, left)

pub loop-place-preserved : goal.loop-place-preserved
loop-place-preserved g c =
    let progress = kept c.next.ensures.same c.loop-place.invariant.2 in
    let steps = c.loop-place.invariant.1 in (
      c.loop-place.invariant.0 + 1,
      omega (arith, c.tick.ensures, steps),
      turned c.args.app.now c.loop-place.numbering.app.now c.loop-place.numbering.pool c.turn.new.numbering.pool c.next.new.self.list.items c.turn.new.cells.list.items c.loop-place.invariant.0 c.loop-place.invariant.3 c.in_ok-turn.ensures.progress progress,
      c.turn.ensures.grown.app ∙ c.loop-place.invariant.3,
    )

pub of-requires : goal.of-requires
of-requires g c = rows_known c.loop-place.numbering.pool c.next.new.self.list.items c.in_ok-known.known.rows c.in_ok-known.ensures.rows (kept c.next.ensures.same c.loop-place.invariant.2).known

pub returns-clause-written : goal.returns-clause-written
returns-clause-written g c =
    let progress = kept c.next.ensures.same c.loop-place.invariant.2 in
    let cells = plain_cells c.loop-place.numbering.pool c.next.new.self.list.items in
    let table = table_alike c.loop-place.numbering.pool c.next.new.self.list.items c.in_ok-known.known.rows c.in_ok-known.ensures.rows c.of.result c.of.ensures in
    subst (λ (t : PlainTable). IsWritten c.args.app.now t) (sym table) (written c.args.app.now cells progress.progress.cells_proper)

pub returns-clause-least : goal.returns-clause-least
returns-clause-least g c =
    let progress = kept c.next.ensures.same c.loop-place.invariant.2 in
    let cells = plain_cells c.loop-place.numbering.pool c.next.new.self.list.items in
    let table = table_alike c.loop-place.numbering.pool c.next.new.self.list.items c.in_ok-known.known.rows c.in_ok-known.ensures.rows c.of.result c.of.ensures in
    let none : NoneWaits cells =
    none_waits_plain c.loop-place.numbering.pool c.next.new.self.list.items c.in_default.ensures.none in
    subst (λ (t : PlainTable). Least c.args.app.now (sets_of t)) (sym table) (least_at_end c.args.app.now cells c.loop-place.invariant.0 progress.progress none)

pub returns-clause-values : goal.returns-clause-values
returns-clause-values g c =
    let progress = kept c.next.ensures.same c.loop-place.invariant.2 in
    let app = c.args.app.now in
    let cells = plain_cells c.loop-place.numbering.pool c.next.new.self.list.items in
    let table = table_alike c.loop-place.numbering.pool c.next.new.self.list.items c.in_ok-known.known.rows c.in_ok-known.ensures.rows c.of.result c.of.ensures in
    subst (λ (t : PlainTable). value_count t ≤ points app * height app) (sym table)
    (values_few app (table_of cells) (written app cells progress.progress.cells_proper) c.masks_are_few.ensures)

pub returns-clause-each_once : goal.returns-clause-each_once
returns-clause-each_once g c =
    let progress = kept c.next.ensures.same c.loop-place.invariant.2 in
    let cells = plain_cells c.loop-place.numbering.pool c.next.new.self.list.items in
    let table = table_alike c.loop-place.numbering.pool c.next.new.self.list.items c.in_ok-known.known.rows c.in_ok-known.ensures.rows c.of.result c.of.ensures in
    let none : NoneWaits cells =
    none_waits_plain c.loop-place.numbering.pool c.next.new.self.list.items c.in_default.ensures.none in
    let steps = c.loop-place.invariant.1 in
    omega (arith, steps, ap (λ (t : PlainTable). length t.rows) table, rows_evaluated c.args.app.now cells c.loop-place.invariant.0 progress.progress none)

pub returns-clause-few : goal.returns-clause-few
returns-clause-few g c =
    let progress = kept c.next.ensures.same c.loop-place.invariant.2 in
    let cells = plain_cells c.loop-place.numbering.pool c.next.new.self.list.items in
    let table = table_alike c.loop-place.numbering.pool c.next.new.self.list.items c.in_ok-known.known.rows c.in_ok-known.ensures.rows c.of.result c.of.ensures in
    let none : NoneWaits cells =
    none_waits_plain c.loop-place.numbering.pool c.next.new.self.list.items c.in_default.ensures.none in
    let steps = c.loop-place.invariant.1 in
    let same = ap value_count table in
    omega (arith, steps, same, evaluations_few c.args.app.now cells c.loop-place.invariant.0 progress.progress none)

pub returns-clause-exits : goal.returns-clause-exits
returns-clause-exits g c =
    let progress = kept c.next.ensures.same c.loop-place.invariant.2 in
    let pool = c.loop-place.numbering.pool in
    let cells = c.next.new.self.list.items in
    let known = c.in_ok-known.known in
    let table = table_alike pool cells known.rows c.in_ok-known.ensures.rows c.of.result c.of.ensures in
    subst (λ (t : PlainTable). AreKnownExits c.args.app.now t.rows known.exits) (sym table)
    (exits_of_rows c.args.app.now pool cells known.exits progress.progress.cells_proper.order progress.progress.known c.in_ok-known.ensures.exits)
