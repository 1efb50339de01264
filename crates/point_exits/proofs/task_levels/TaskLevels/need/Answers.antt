use Rattle.std.proofs.Common.{◌≡◌, ℕ, ◌+◌, min, sym, ap, subst, ◌∙◌}
use Rattle.numbered_sets.specs.{Numbers.{meets}, NumberedEntries.{numbers_at}}
use Rattle.point_exits.proofs.NarrowingLaws.{least_of_dead, least_of_live, nothing_met, IsNeedUpTo, no_need, need_with, need_without, least_of_all, enough_of_all, need_of_none}
use Rattle.point_exits.proofs.task_levels.TaskLevels.need.Goals.{then-meets-2, else-meets-2}
use Rattle.point_exits.proofs.task_levels.TaskLevels.need.Goals as goal

pub returns-then-meets-clause-least : goal.returns-then-meets-clause-least
returns-then-meets-clause-least c = λ app vs h all.
    let x = numbers_at c.args.entry.now c.args.task.0 in
    let its = c.meets.ensures ∙ ap (λ (n : ℕ). meets (numbers_at c.args.entry.now n) c.args.self.now.dead) c.index-component.ensures in
    least_of_dead app c.args.task.0 vs c.args.self.now x h all (sym its ∙ c.if-meets.true)

pub returns-then-meets-clause-none : goal.returns-then-meets-clause-none
returns-then-meets-clause-none c = λ none.
    let x = numbers_at c.args.entry.now c.args.task.0 in
    let its = c.meets.ensures ∙ ap (λ (n : ℕ). meets (numbers_at c.args.entry.now n) c.args.self.now.dead) c.index-component.ensures in
    absurd (nothing_met x c.args.self.now.dead none (sym its ∙ c.if-meets.true))

pub loop-level-init : goal.loop-level-init
loop-level-init c = no_need c.as_slice-level-items.result.now (numbers_at c.args.entry.now c.args.task.0)

pub loop-level-preserved : goal.loop-level-preserved
loop-level-preserved c =
    let x = numbers_at c.args.entry.now c.args.task.0 in
    let items = c.as_slice-level-items.result.now in
    let level = c.level-item.result in
    let k = c.loop-level.level-index in
    let met = c.meets-in-loop-level in
    let its : met.result ≡ meets x level.numbers = met.ensures ∙ ap (λ (n : ℕ). meets (numbers_at c.args.entry.now n) level.numbers) c.index-component.ensures in
    elim c.if-meets-2.branch [
      | then-meets-2 w ↦
          need_with items x k c.loop-level.need level c.loop-level.invariant c.loop-level-test.true (sym c.level-item.is) c.if-meets-2.need (sym its ∙ w.if-meets-2.true) w.limit_above.ensures.few
          (w.need-is ∙ w.min-need.ensures ∙ ap (min c.loop-level.need) w.limit_above.ensures.above)
      | else-meets-2 w ↦
          subst (IsNeedUpTo items x (k + 1)) (sym w.need-is)
          (need_without items x k c.loop-level.need level c.loop-level.invariant c.loop-level-test.true (sym c.level-item.is) (sym its ∙ w.if-meets-2.false))
    ]

pub returns-clause-least : goal.returns-clause-least
returns-clause-least c = λ app vs h all.
    let x = numbers_at c.args.entry.now c.args.task.0 in
    let its = c.meets.ensures ∙ ap (λ (n : ℕ). meets (numbers_at c.args.entry.now n) c.args.self.now.dead) c.index-component.ensures in
    let levels = c.args.self.now.levels in
    let items = c.as_slice-level-items.result.now in
    let k = c.loop-level.level-index in
    let need = c.loop-level.need in
    least_of_live app c.args.task.0 vs c.args.self.now x h all need (sym its ∙ c.if-meets.false)
    (least_of_all levels items x k need c.loop-level.invariant c.loop-level-test.false c.as_slice-level-items.ensures)
    (enough_of_all levels items x k need c.loop-level.invariant c.loop-level-test.false c.as_slice-level-items.ensures)

pub returns-clause-none : goal.returns-clause-none
returns-clause-none c = need_of_none c.as_slice-level-items.result.now (numbers_at c.args.entry.now c.args.task.0) c.loop-level.level-index c.loop-level.need c.loop-level.invariant
