use Rattle.std.proofs.Common.{List, [], ◌∷◌, take, sym, subst}
use Rattle.std.proofs.lemmas.List.{take_all}
use Rattle.osek_standard.specs.declared.app.App.{App}
use Rattle.abstract_state.specs.{declared.table.TableRow.{TableRow}, Domains.{HasMasks}}
use Rattle.numbered_sets.specs.{declared.table.NumberedRow.{NumberedRow}, PlainTables.{plain_row, plain_rows}}
use Rattle.point_exits.proofs.GrownNumberings.{grown_itself, grown_onward}
use Rattle.state_flow.specs.{PlainCells.{plain_cells}, Numbering.{AreNumberedCells, IsKnownRow, AreEvaluated, AreRowsEvaluated}}
use Rattle.state_flow.proofs.{ExitJoins.{map_more, listed_item}, Evaluations.{evaluated_none, evaluated_then}, NumberedCells.{known_still, row_same}}
use Rattle.state_flow.proofs.evaluation.evaluate_each.Goals as goal

pub loop-row-init : goal.loop-row-init
loop-row-init c = record {
  grown = grown_itself c.args.numbering.now;
  evaluated = record { known = c.requires.cells.known; evaluated = evaluated_none c.args.numbering.now.app.now (plain_cells c.args.numbering.now.pool c.args.cells.now.list.items) c.requires.cells.proper };
}

pub evaluate-requires-clause-masks : goal.evaluate-requires-clause-masks
evaluate-requires-clause-masks c = subst HasMasks (sym c.loop-row.invariant.grown.app) c.requires.masks

pub evaluate-requires-clause-cells : goal.evaluate-requires-clause-cells
evaluate-requires-clause-cells c =
    let evaluated = c.loop-row.invariant.evaluated in
    subst (λ (own : App). AreNumberedCells own c.loop-row.numbering.pool c.loop-row.cells.list.items) (sym c.loop-row.invariant.grown.app)
    (record { known = evaluated.known; proper = evaluated.evaluated.joined.cells_proper })

pub evaluate-requires-clause-row : goal.evaluate-requires-clause-row
evaluate-requires-clause-row c =
    let row = c.row-item.result in
    subst (λ (own : App). IsKnownRow own c.loop-row.numbering.pool row) (sym c.loop-row.invariant.grown.app)
    (known_still c.args.numbering.now.app.now c.args.numbering.now.pool c.loop-row.numbering.pool row c.loop-row.invariant.grown.pool (c.requires.rows row (listed_item c.args.rows.now c.loop-row.row-index row c.loop-row-test.true c.row-item.is)))

pub loop-row-preserved : goal.loop-row-preserved
loop-row-preserved c =
    let app = c.args.numbering.now.app.now in
    let pool = c.args.numbering.now.pool in
    let cells = plain_cells pool c.args.cells.now.list.items in
    let now = c.loop-row.numbering.pool in
    let new = c.evaluate.new.numbering.pool in
    let i = c.loop-row.row-index in
    let rows = c.args.rows.now in
    let row = c.row-item.result in
    let known = (c.requires.rows row (listed_item rows i row c.loop-row-test.true c.row-item.is)).numbers in
    let inv = c.loop-row.invariant in
    let new_cells = plain_cells new c.evaluate.new.cells.list.items in
    let own : AreEvaluated app (plain_row now row ∷ []) (plain_cells now c.loop-row.cells.list.items) new_cells =
    subst (λ (own : App). AreEvaluated own (plain_row now row ∷ []) (plain_cells now c.loop-row.cells.list.items) new_cells) inv.grown.app c.in_ok-evaluate.ensures.evaluated.evaluated in
    let this : AreEvaluated app (plain_row pool row ∷ []) (plain_cells now c.loop-row.cells.list.items) new_cells =
    subst (λ (r : TableRow). AreEvaluated app (r ∷ []) (plain_cells now c.loop-row.cells.list.items) new_cells) (row_same pool now row inv.grown.pool known) own in
    record {
      grown = grown_onward c.args.numbering.now c.loop-row.numbering c.evaluate.new.numbering inv.grown c.evaluate.ensures.grown;
      evaluated = record {
        known = c.in_ok-evaluate.ensures.evaluated.known;
        evaluated = subst (λ (rs : List TableRow). AreEvaluated app rs cells new_cells) (map_more (plain_row pool) rows i row c.loop-row-test.true c.row-item.is)
            (evaluated_then app (plain_rows pool (take i rows)) (plain_row pool row ∷ []) cells (plain_cells now c.loop-row.cells.list.items) new_cells inv.evaluated.evaluated this);
      };
    }

pub returns-in_err-evaluate-clause-grown : goal.returns-in_err-evaluate-clause-grown
returns-in_err-evaluate-clause-grown c = grown_onward c.args.numbering.now c.loop-row.numbering c.evaluate.new.numbering c.loop-row.invariant.grown c.evaluate.ensures.grown

pub returns-clause-evaluated : goal.returns-clause-evaluated
returns-clause-evaluated c =
    subst (λ (rs : List NumberedRow). AreRowsEvaluated c.args.numbering.now.app.now c.args.numbering.now.pool rs c.args.cells.now.list.items c.loop-row.numbering.pool c.loop-row.cells.list.items)
    (take_all c.loop-row.row-index c.args.rows.now c.loop-row-test.false) c.loop-row.invariant.evaluated
