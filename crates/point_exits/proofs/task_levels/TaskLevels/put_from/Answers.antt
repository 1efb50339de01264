use Rattle.std.proofs.Common.{◌≡◌, ◌+◌, ◌<◌, List, length, set, sym, ap, subst, ◌∙◌, arith}
use Rattle.std.proofs.lemmas.List.{set-get_or}
use Rattle.numbered_sets.specs.Numbers.{Numbers}
use Rattle.point_exits.specs.{declared.task_levels.{Level.{Level}, TaskLevels.{TaskLevels}}, Levels.{ArePutFrom}}
use Rattle.point_exits.proofs.LevelsFrom.{fewer_put, put_below, put_with}
use Rattle.point_exits.proofs.task_levels.TaskLevels.put_from.Goals.{then-level-priority+in_ok-put, else-level-priority}
use Rattle.point_exits.proofs.task_levels.TaskLevels.put_from.Goals as goal

pub returns-in_err-put-clause-put : goal.returns-in_err-put-clause-put
returns-in_err-put-clause-put c =
    let p = c.args.priority in
    let x = c.args.self.now in
    let y = c.loop-place.self in
    let k = c.loop-place.place in
    let level = c.at_mut-level.result.now in
    let same : set y.levels k level ≡ y.levels = ap (set y.levels k) (sym (c.at_mut-level.ensures.item level)) ∙ set-get_or y.levels k level in
    subst (λ (n : Numbers). ArePutFrom p x (record y { levels = set y.levels k (record level { from = n }) }) 0) (sym c.in_err-put.ensures.err)
    (subst (λ (ls : List Level). ArePutFrom p x (record y { levels = ls }) 0) (sym same) (fewer_put p x y 0 k (omega arith) c.loop-place.invariant))

pub loop-place-preserved : goal.loop-place-preserved
loop-place-preserved c =
    let p = c.args.priority in
    let x = c.args.self.now in
    let y = c.loop-place.self in
    let k = c.loop-place.place in
    let level = c.at_mut-level.result.now in
    let at = c.at_mut-level.ensures.item level in
    let same : set y.levels k level ≡ y.levels = ap (set y.levels k) (sym at) ∙ set-get_or y.levels k level in
    let size = c.loop-place.invariant.size in
    let known : k < length y.levels = omega (arith, c.loop-place-test.true, c.len-place-end.ensures, size) in
    elim c.if-level-priority.branch [
      | then-level-priority+in_ok-put w ↦
          subst (λ (z : TaskLevels). ArePutFrom p x z (k + 1)) (sym w.self-is) (put_with p x y k level known at c.loop-place.invariant w.put.new.self w.in_ok-put.ensures.set w.if-level-priority.true)
      | else-level-priority w ↦
          subst (λ (z : TaskLevels). ArePutFrom p x z (k + 1)) (sym w.self-is)
          (subst (λ (ls : List Level). ArePutFrom p x (record y { levels = ls }) (k + 1)) (sym same) (put_below p x y k level known at c.loop-place.invariant w.if-level-priority.false))
    ]
