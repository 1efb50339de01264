use Rattle.std.proofs.Common.{List, sym, subst}
use Rattle.point_exits.specs.{declared.task_levels.Level.{Level}, Levels.{AreTaskLevels}}
use Rattle.point_exits.proofs.JudgedValues.{level_added}
use Rattle.point_exits.proofs.task_levels.TaskLevels.place_for.Goals as goal

pub returns-clause-levels : goal.returns-clause-levels
returns-clause-levels c = λ app u vs h.
    level_added app u vs c.args.self.now c.push.new.self (record { priority = c.args.priority; numbers = c.new-numbers.result; from = c.in_ok-from.from }) c.domain.result h c.in_ok-push.ensures.ok c.new-numbers.ensures
    (c.in_ok-from.ensures app u vs h)

pub returns-in_err-push-clause-levels : goal.returns-in_err-push-clause-levels
returns-in_err-push-clause-levels c = λ app u vs h. subst (λ (ls : List Level). AreTaskLevels app u vs (record c.args.self.now { levels = ls })) (sym c.in_err-push.ensures.err) h
