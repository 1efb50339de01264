use Rattle.std.proofs.Common.{ℕ, ◌+◌, List, take, sym, subst}
use Rattle.trace_text.proofs.{Parts.{whole_tail}, PointReading.{alone, IsOver, over_one}}
use Rattle.trace_text.proofs.point_words.block_point.Goals as goal

pub returns-in-None : goal.returns-in-None
returns-in-None c = alone c.args.app.now c.args.rest.now c.task_point.result (sym c.in-None.ensures) c.task_point.ensures

pub returns-in-Some : goal.returns-in-Some
returns-in-Some c =
    let app = c.args.app.now in
    let rest = c.args.rest.now in
    let place = c.in-Some.place in
    over_one app rest place c.routine_point.result (sym c.in-Some.ensures) (subst (λ (name : List ℕ). IsOver app (take place rest) name c.routine_point.result) (whole_tail (place + 1) rest) c.routine_point.ensures)
