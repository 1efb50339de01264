use Rattle.std.proofs.Common.{◌<◌, ℕ, length, sym, ap, subst, ◌∙◌, arith}
use Rattle.std.specs.Prelude.{Some}
use Rattle.numbered_sets.specs.{Numbers.{has_number}, Pools.{values_at, IsBeside}}
use Rattle.point_exits.specs.declared.task_levels.Level.{Level}
use Rattle.point_exits.proofs.JudgedValues.{placed_beside}
use Rattle.point_exits.proofs.task_levels.TaskLevels.place_beside.Goals as goal

pub returns-then-has-clause-level : goal.returns-then-has-clause-level
returns-then-has-clause-level c =
    let values = c.args.values.now in
    let x = c.args.self.now in
    let place = c.loop-place.place in
    let number = c.in_ok-beside.beside in
    let known : place < length x.levels = omega (arith, c.loop-place-test.true, c.len-place-end.ensures) in
    let beside = subst (λ (k : ℕ). IsBeside (values_at values.pool.now k) x.judged number) c.index.ensures c.in_ok-beside.ensures in
    placed_beside values.app.now values.task.0 (values_at values.pool.now values.task.0) x x.judged number (Some place) c.requires.levels beside known
    (λ d. ap (λ (l : Level). has_number l.numbers number) (c.at.ensures.item d) ∙ sym c.has.ensures ∙ c.if-has.true)
