use Rattle.std.proofs.{Common.{ℕ, false, get_or, subst}, lemmas.{List.{get_or_default}, Result.{on_ok_weaker, on_err_weaker}}}
use Rattle.abstract_state.specs.declared.value.PartValue.TheVariants.{OfEvent}
use Rattle.numbered_sets.specs.Pools.{values_at, IsNumberOf}
use Rattle.point_exits.proofs.task_levels.TaskLevels.judge_next.Goals as goal

pub returns-in-Some-clause-levels : goal.returns-in-Some-clause-levels
returns-in-Some-clause-levels c =
    let values = c.args.values.now in
    let x = c.args.self.now in
    let vs = values_at values.pool.now values.task.0 in
    let v = get_or vs x.judged (OfEvent false) in
    let next = c.requires.next in
    let is : IsNumberOf vs v x.judged = record { known = next; is = λ d. get_or_default vs x.judged d (OfEvent false) next } in
    on_ok_weaker c.put_next.result (λ put. put values.app.now values.task.0 vs v c.requires.levels is (λ d. c.in-Some.ensures.level d v is)) c.put_next.ensures.levels

pub returns-in-Some-clause-err : goal.returns-in-Some-clause-err
returns-in-Some-clause-err c =
    let values = c.args.values.now in
    let x = c.args.self.now in
    let vs = values_at values.pool.now values.task.0 in
    let v = get_or vs x.judged (OfEvent false) in
    let next = c.requires.next in
    let is : IsNumberOf vs v x.judged = record { known = next; is = λ d. get_or_default vs x.judged d (OfEvent false) next } in
    on_err_weaker c.put_next.result (λ kept. kept values.app.now values.task.0 vs v c.requires.levels is (λ d. c.in-Some.ensures.level d v is)) c.put_next.ensures.err

pub returns-clause-err : goal.returns-clause-err
returns-clause-err c =
    let values = c.args.values.now in
    on_err_weaker c.judge.result (λ kept. kept (values_at values.pool.now values.task.0) c.requires.levels
    (subst (λ (k : ℕ). IsNumberOf (values_at values.pool.now k) c.value-value.result c.args.self.now.judged) c.index.ensures c.value-value.ensures)) c.judge.ensures.err
