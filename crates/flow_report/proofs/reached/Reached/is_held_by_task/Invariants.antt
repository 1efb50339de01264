use Rattle.std.proofs.Common.{ℕ, ◌<◌}
use Rattle.flow_model.specs.declared.test.Test.TheVariants as test
use Rattle.numbered_sets.specs.Views.{plain_entry}
use Rattle.flow_report.specs.Reached.{HasPassing}
use Rattle.flow_report.proofs.reached.Reached.is_held_by_task.Given as goal

abbrev pub invariant-loop-task : goal.invariant-loop-task
invariant-loop-task l = (t : ℕ) → t < l.task → HasPassing t (test.Holds l.fn.resource) (plain_entry l.self.pool.now l.row.entry) → ⊥
