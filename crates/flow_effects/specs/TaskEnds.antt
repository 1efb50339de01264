-- The cases of the end of a task, and of the services by which it ends or lets others run (ISO 17356-3, TerminateTask,
-- ChainTask, Schedule).
use Rattle.std.specs.Prelude.{◌==◌, Bool, true, false, List, [], ◌∷◌, ◌++◌, Some, None, if◌then◌else◌}
use Rattle.osek_values.specs.declared.numbers.{TaskNo.{TaskNo}, BlockNo.{BlockNo}}
use Rattle.osek_values.specs.declared.status.Status.TheVariants as status
use Rattle.osek_standard.specs.{declared.app.App.{App}, Apps.{the_task}}
use Rattle.osek_standard.specs.declared.point.Point.TheVariants as point
use Rattle.abstract_state.specs.declared.value.{Val.TheVariants.{Suspended}, PartValue.TheVariants.{OfTask}}
use Rattle.flow_model.specs.declared.case.EffectCase.{EffectCase}
use Rattle.flow_model.specs.declared.case.Asked.TheVariants as asked
use Rattle.flow_model.specs.declared.test.{Test.{Test}, Condition.{Condition}}
use Rattle.flow_model.specs.declared.test.Test.TheVariants as test
use Rattle.flow_model.specs.declared.change.{Update.{Update}, Change.{Change}}
use Rattle.flow_model.specs.declared.change.Update.TheVariants as update
use Rattle.flow_model.specs.declared.runner.Runner.{Runner}
use Rattle.flow_model.specs.declared.runner.Runner.TheVariants as runner
use Rattle.flow_model.specs.{Changes.{activating, activating_more}, Runners.{change}, Cases.{effect_case, goes_on, with_last}}
use Rattle.flow_effects.specs.{Conditions.{of_task}, Moves.{stays, goes_on_as, refuses}}

-- whether a further activation of the task is left
abbrev pub further_test : Bool → Test
further_test true = test.SomeFurther
further_test false = test.NoFurther

-- what becomes of a task that ends: it begins anew for a further activation, and else is suspended
abbrev pub end_update : App → TaskNo → Bool → Update
end_update app t true = update.Again (the_task app t.0).first
end_update app t false = update.Set (OfTask Suspended)

abbrev pub end_change : App → TaskNo → Bool → Change
end_change app t further = change t.0 (end_update app t further)

-- a test of what is left, after others
abbrev pub and_further : List Condition → TaskNo → Bool → List Condition
and_further conditions t further = conditions ++ of_task t (further_test further) ∷ []

-- the task ends and leaves the processor
abbrev pub ends : App → TaskNo → List Condition → Bool → EffectCase
ends app t conditions further = effect_case (and_further conditions t further) (end_change app t further ∷ []) asked.Left None point.Idle

-- no further activation of it is left, or some is
abbrev pub both_ends : App → TaskNo → List Condition → List EffectCase
both_ends app t conditions = ends app t conditions false ∷ ends app t conditions true ∷ []

abbrev pub task_end_cases : App → Runner → BlockNo → List EffectCase
task_end_cases app (runner.Task t) b = both_ends app t []
task_end_cases app (runner.Routine k z over) b = stays (runner.Routine k z over) b ∷ []

-- RESOURCE where the task holds one
abbrev pub refused_holding : TaskNo → BlockNo → EffectCase
refused_holding t n = goes_on (runner.Task t) n (of_task t test.HoldsSome ∷ []) asked.No (Some status.Resource)

abbrev pub holding_nothing : TaskNo → List Condition
holding_nothing t = of_task t test.HoldsNothing ∷ []

abbrev pub terminate_cases : App → Runner → BlockNo → List EffectCase
terminate_cases app (runner.Task t) n = refused_holding t n ∷ both_ends app t (holding_nothing t)
terminate_cases app (runner.Routine k z over) n = refuses (runner.Routine k z over) n status.CallLevel

-- the task ends, and then the other one begins, which may be the same: it is put last
abbrev pub chains_start : App → TaskNo → TaskNo → List Condition → Bool → EffectCase
chains_start app t x conditions further =
    with_last (Some x) (effect_case (and_further conditions t further) (end_change app t further ∷ activating app x.0) asked.Left None point.Idle)

-- the task ends, and then the other one, which may be the same, is Live and has a further activation more
abbrev pub chains_more : App → TaskNo → TaskNo → List Condition → Bool → EffectCase
chains_more app t x conditions further =
    effect_case (and_further conditions t further) (end_change app t further ∷ activating_more x.0) asked.Left None point.Idle

-- a chain to oneself is no second activation, so there is always room for it
abbrev pub chain_to_itself : App → TaskNo → BlockNo → TaskNo → List EffectCase
chain_to_itself app t n x = refused_holding t n ∷ chains_start app t x (holding_nothing t) false ∷ chains_more app t x (holding_nothing t) true ∷ []

-- a test of the other task, where nothing is held
abbrev pub holding_nothing_and : TaskNo → TaskNo → Test → List Condition
holding_nothing_and t x z = holding_nothing t ++ of_task x z ∷ []

-- LIMIT where the other task takes no further activation
abbrev pub limited : App → TaskNo → BlockNo → TaskNo → EffectCase
limited app t n x = goes_on (runner.Task t) n (holding_nothing_and t x (test.Full (the_task app x.0).activation)) asked.No (Some status.Limit)

-- the other task is suspended: it begins
abbrev pub starting_chains : App → TaskNo → TaskNo → List EffectCase
starting_chains app t x = chains_start app t x (holding_nothing_and t x test.Suspended) false ∷ chains_start app t x (holding_nothing_and t x test.Suspended) true ∷ []

-- it is Live and takes a further activation
abbrev pub further_chains : App → TaskNo → TaskNo → List EffectCase
further_chains app t x =
    chains_more app t x (holding_nothing_and t x (test.Room (the_task app x.0).activation)) false
    ∷ chains_more app t x (holding_nothing_and t x (test.Room (the_task app x.0).activation)) true ∷ []

abbrev pub chain_to_another : App → TaskNo → BlockNo → TaskNo → List EffectCase
chain_to_another app t n x = refused_holding t n ∷ limited app t n x ∷ starting_chains app t x ++ further_chains app t x

abbrev pub chain_cases : App → Runner → BlockNo → TaskNo → List EffectCase
chain_cases app (runner.Task t) n x = if x.0 == t.0 then chain_to_itself app t n x else chain_to_another app t n x
chain_cases app (runner.Routine k z over) n x = refuses (runner.Routine k z over) n status.CallLevel

-- the task gives its INTERNAL resource back, and asks, also where it is non-preemptive
abbrev pub reschedules : TaskNo → BlockNo → EffectCase
reschedules t n = goes_on_as t n (holding_nothing t) (update.Leave n) (asked.Maybe t)

abbrev pub schedule_cases : Runner → BlockNo → List EffectCase
schedule_cases (runner.Task t) n = refused_holding t n ∷ reschedules t n ∷ []
schedule_cases (runner.Routine k z over) n = refuses (runner.Routine k z over) n status.CallLevel
