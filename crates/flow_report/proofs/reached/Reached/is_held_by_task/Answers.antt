use Rattle.std.proofs.Common.{◌≡◌, ℕ, false, true, refl, inl, inr, arith, sym, subst, ◌∙◌}
use Rattle.std.proofs.lemmas.Bool.{cases_lt}
use Rattle.flow_model.specs.declared.test.Test.TheVariants as test
use Rattle.numbered_sets.specs.Views.{plain_entry}
use Rattle.abstract_state.proofs.ComponentLaws.{task_counted}
use Rattle.flow_report.specs.Reached.{HasPassing}
use Rattle.flow_report.proofs.PassingNumbers.{entry_count, rows_pool}
use Rattle.flow_report.proofs.reached.Reached.is_held_by_task.Goals as goal

pub has_passing-requires-clause-numbers : goal.has_passing-requires-clause-numbers
has_passing-requires-clause-numbers c = c.requires.rows.known.each c.args.row.now c.requires.among

pub has_passing-requires-clause-values : goal.has_passing-requires-clause-values
has_passing-requires-clause-values c =
    let self = c.args.self.now in
    let count = rows_pool self.app.now self.pool.now self.rows.now c.requires.rows (omega (arith, c.requires.among.1)) in
    omega (arith, count, task_counted self.app.now c.loop-task.task (omega (arith, c.loop-task-test.true, c.len-task-end.ensures)))

pub has_passing-requires-clause-set : goal.has_passing-requires-clause-set
has_passing-requires-clause-set c =
    let self = c.args.self.now in
    let row = c.args.row.now in
    let count = rows_pool self.app.now self.pool.now self.rows.now c.requires.rows (omega (arith, c.requires.among.1)) in
    omega (arith, count, entry_count self.pool.now row.entry (c.requires.rows.known.each row c.requires.among), task_counted self.app.now c.loop-task.task (omega (arith, c.loop-task-test.true, c.len-task-end.ensures)))

pub loop-task-init : goal.loop-task-init
loop-task-init c = λ t lt h. omega (arith, lt)

pub returns-then-has_passing : goal.returns-then-has_passing
returns-then-has_passing c = (λ e. record { task = c.loop-task.task; known = omega (arith, c.loop-task-test.true, c.len-task-end.ensures); value = c.has_passing.ensures.0 c.if-has_passing.true }, λ h. refl)

pub loop-task-preserved : goal.loop-task-preserved
loop-task-preserved c = λ t lt h. elim (cases_lt t c.loop-task.task) [
  | inl less ↦ c.loop-task.invariant t less h
  | inr le ↦
      (let at : t ≡ c.loop-task.task = omega (arith, lt, le) in
      let here = subst (λ (u : ℕ). HasPassing u (test.Holds c.args.resource) (plain_entry c.args.self.now.pool.now c.args.row.now.entry)) at h in
      let wrong : false ≡ true = sym c.if-has_passing.false ∙ c.has_passing.ensures.1 here in
      absurd (cc))
]

pub returns : goal.returns
returns c = (
  λ e. absurd (cc),
  λ h. absurd (c.loop-task.invariant h.task (omega (arith, h.known, c.loop-task-test.false, c.len-task-end.ensures)) h.value),
)
