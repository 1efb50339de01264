use Rattle.std.proofs.Common.{◌≡◌, ◌∙◌, List, set, sym, ap, subst}
use Rattle.std.proofs.lemmas.List.{set-get_or}
use Rattle.numbered_sets.specs.Numbers.{Numbers}
use Rattle.point_exits.specs.{declared.task_levels.Level.{Level}, Levels.{IsLiveAt, AreTaskLevels}}
use Rattle.point_exits.proofs.{JudgedValues.{also_wanting}, LevelsFrom.{next_put}}
use Rattle.point_exits.proofs.task_levels.TaskLevels.put_next.Goals as goal

pub returns-clause-levels : goal.returns-clause-levels
returns-clause-levels c = λ app u vs v h is live.
    let x = c.args.self.now in
    let y = c.put_from.new.self in
    let place = c.args.place in
    let level = c.at_mut-level.result.now in
    let at = c.at_mut-level.ensures.item level in
    let put = c.in_ok-put_from.ensures.all in
    let same : level.priority ≡ c.at.result.now.priority =
    ap (λ (l : Level). l.priority) (sym at) ∙ put.priorities place level ∙ ap (λ (l : Level). l.priority) (c.at.ensures.item level) in
    next_put app u vs v c.at.result.now.priority x y put h is (subst (λ (l : Level). IsLiveAt app u l.priority v) (c.at.ensures.item level) (live level)) place level c.put.new.self c.requires at same c.in_ok-put.ensures.set

pub returns-clause-judged : goal.returns-clause-judged
returns-clause-judged c = c.in_ok-put_from.ensures.put.judged

pub returns-in_err-put_from-clause-err : goal.returns-in_err-put_from-clause-err
returns-in_err-put_from-clause-err c = also_wanting c.from_residual.result λ app u vs v h is live.
    let level = c.at.result.now in
    c.in_err-put_from.ensures.put.levels app u vs v h is (subst (λ (l : Level). IsLiveAt app u l.priority v) (c.at.ensures.item level) (live level))

pub returns-in_err-put-clause-err : goal.returns-in_err-put-clause-err
returns-in_err-put-clause-err c = also_wanting c.from_residual-in_err-put.result λ app u vs v h is live.
    let y = c.put_from.new.self in
    let place = c.args.place in
    let level = c.at_mut-level.result.now in
    let first = c.at.result.now in
    let same : set y.levels place level ≡ y.levels = ap (set y.levels place) (sym (c.at_mut-level.ensures.item level)) ∙ set-get_or y.levels place level in
    let put = c.in_ok-put_from.ensures.put.levels app u vs v h is (subst (λ (l : Level). IsLiveAt app u l.priority v) (c.at.ensures.item first) (live first)) in
    subst (λ (n : Numbers). AreTaskLevels app u vs (record y { levels = set y.levels place (record level { numbers = n }) })) (sym c.in_err-put.ensures.err)
    (subst (λ (ls : List Level). AreTaskLevels app u vs (record y { levels = ls })) (sym same) put)
