-- Conditions on a task, and on a source.
use Rattle.std.specs.Prelude.{ℕ}
use Rattle.osek_values.specs.{Numbers.{source_no}, declared.numbers.TaskNo.{TaskNo}}
use Rattle.osek_standard.specs.declared.app.App.{App}
use Rattle.abstract_state.specs.Components.{component_number}
use Rattle.abstract_state.specs.declared.value.Component.TheVariants as component
use Rattle.flow_model.specs.{declared.test.{Test.{Test}, Condition.{Condition}}, Cases.{condition}}

-- a test of a task
abbrev pub of_task : TaskNo → Test → Condition
of_task t x = condition t.0 x

-- a test of a source
abbrev pub of_source : App → ℕ → Test → Condition
of_source app k x = condition (component_number app (component.Source (source_no k))) x
