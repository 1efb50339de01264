use Rattle.std.proofs.Common.{refl, sym, ◌∙◌, arith}
use Rattle.task_code.proofs.Tables.{found_here, not_here, not_found}
use Rattle.task_code.proofs.words.found_in.Goals as goal

pub loop-word-init : goal.loop-word-init
loop-word-init g c = (omega arith, refl, refl)

pub loop-word-preserved : goal.loop-word-preserved
loop-word-preserved g c =
    let before = c.loop-word.invariant in
    (omega (arith, c.loop-word-test.true), before.1, before.2 ∙ not_here c.args.table.now c.args.name.now c.loop-word.word-index c.loop-word-item.result c.loop-word-test.true c.loop-word-item.is (sym c.eq.ensures ∙ c.if-eq.false))

pub returns-then-eq : goal.returns-then-eq
returns-then-eq g c =
    let before = c.loop-word.invariant in
    sym (before.2 ∙ found_here c.args.table.now c.args.name.now c.loop-word.word-index c.loop-word-item.result c.loop-word-test.true c.loop-word-item.is (sym c.eq.ensures ∙ c.if-eq.true))

pub returns : goal.returns
returns g c =
    let before = c.loop-word.invariant in
    sym (before.2 ∙ not_found c.args.table.now c.args.name.now c.loop-word.word-index (omega (arith, c.loop-word-test.false)))
