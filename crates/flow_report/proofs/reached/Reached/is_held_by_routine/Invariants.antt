use Rattle.std.proofs.Common.{ℕ, ◌<◌}
use Rattle.osek_values.specs.Numbers.{source_no}
use Rattle.abstract_state.specs.Components.{component_number}
use Rattle.abstract_state.specs.declared.value.Component.TheVariants as component
use Rattle.flow_model.specs.declared.test.Test.TheVariants as test
use Rattle.numbered_sets.specs.Views.{plain_entry}
use Rattle.flow_report.specs.Reached.{HasPassing}
use Rattle.flow_report.proofs.reached.Reached.is_held_by_routine.Given as goal

abbrev pub invariant-loop-source : goal.invariant-loop-source
invariant-loop-source l =
    (k : ℕ) → k < l.source → HasPassing (component_number l.self.app.now (component.Source (source_no k))) (test.Holds l.fn.resource) (plain_entry l.self.pool.now l.row.entry) → ⊥
