use Rattle.std.proofs.Common.{ℕ, ◌∙◌, sym, subst}
use Rattle.std.proofs.lemmas.Result.{on_ok_weaker, on_err_weaker}
use Rattle.numbered_sets.specs.{Numbers.{Numbers}, Pools.{IsNumberOf}}
use Rattle.point_exits.specs.Levels.{IsLiveAt, AreTaskLevels}
use Rattle.point_exits.proofs.JudgedValues.{also_wanting, dead_judged, is_dead, is_live_at}
use Rattle.point_exits.proofs.task_levels.TaskLevels.judge.Goals as goal

pub returns-in_ok-put-in-None-clause-levels : goal.returns-in_ok-put-in-None-clause-levels
returns-in_ok-put-in-None-clause-levels c = λ vs h is.
    let app = c.args.values.now.app.now in
    let u = c.args.values.now.task.0 in
    let v = c.args.value.now in
    dead_judged app u vs c.args.self.now v h is c.put.new.self c.in_ok-put-in-None.ensures.set (is_dead app u v c.as_candidate.result c.as_candidate.ensures c.in-None.is)

pub returns-in_ok-place-in-Some-clause-levels : goal.returns-in_ok-place-in-Some-clause-levels
returns-in_ok-place-in-Some-clause-levels c =
    let app = c.args.values.now.app.now in
    let u = c.args.values.now.task.0 in
    let v = c.args.value.now in
    let place = c.in_ok-place-in-Some.ensures in
    let live = is_live_at app u v c.as_candidate.result c.in-Some.own c.as_candidate.ensures c.in-Some.is in
    on_ok_weaker c.put_next.result
    (λ put vs h is. put app u vs v (c.place_for.ensures.levels app u vs h) (subst (IsNumberOf vs v) (sym place.judged) is) (λ d. subst (λ (p : ℕ). IsLiveAt app u p v) (sym (place.at d)) live))
    c.put_next.ensures.levels

pub returns-in_ok-place-in-Some-clause-judged : goal.returns-in_ok-place-in-Some-clause-judged
returns-in_ok-place-in-Some-clause-judged c = on_ok_weaker c.put_next.result (λ put. put ∙ c.in_ok-place-in-Some.ensures.judged) c.put_next.ensures.judged

pub returns-in_err-put-in-None-clause-err : goal.returns-in_err-put-in-None-clause-err
returns-in_err-put-in-None-clause-err c = also_wanting c.from_residual.result λ vs h is. subst (λ (x : Numbers). AreTaskLevels c.args.values.now.app.now c.args.values.now.task.0 vs (record c.args.self.now { dead = x })) (sym c.in_err-put-in-None.ensures.err) h

pub returns-in_err-place-in-Some-clause-err : goal.returns-in_err-place-in-Some-clause-err
returns-in_err-place-in-Some-clause-err c = also_wanting c.from_residual-in_err-place-in-Some.result λ vs h is. c.place_for.ensures.levels c.args.values.now.app.now c.args.values.now.task.0 vs h

pub returns-in_ok-place-in-Some-clause-err : goal.returns-in_ok-place-in-Some-clause-err
returns-in_ok-place-in-Some-clause-err c =
    let app = c.args.values.now.app.now in
    let u = c.args.values.now.task.0 in
    let v = c.args.value.now in
    let place = c.in_ok-place-in-Some.ensures in
    let live = is_live_at app u v c.as_candidate.result c.in-Some.own c.as_candidate.ensures c.in-Some.is in
    on_err_weaker c.put_next.result
    (λ kept vs h is. kept app u vs v (c.place_for.ensures.levels app u vs h) (subst (IsNumberOf vs v) (sym place.judged) is) (λ d. subst (λ (p : ℕ). IsLiveAt app u p v) (sym (place.at d)) live))
    c.put_next.ensures.err
