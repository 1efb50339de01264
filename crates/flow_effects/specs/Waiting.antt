-- The cases of WaitEvent (ISO 17356-3, event control).
use Rattle.std.specs.Prelude.{◌≡◌, ℕ, ◌+◌, Bool, true, false, bit_and, List, [], ◌∷◌, map, Some, if◌then◌else◌}
use Rattle.osek_values.specs.{Numbers.{event_no}, declared.{mask.Mask.{Mask}, numbers.{TaskNo.{TaskNo}, BlockNo.{BlockNo}}}}
use Rattle.osek_values.specs.declared.status.Status.TheVariants as status
use Rattle.osek_values.specs.Bits.{bits_of}
use Rattle.osek_standard.specs.declared.app.App.{App}
use Rattle.osek_standard.specs.declared.point.Point.TheVariants as point
use Rattle.osek_standard.specs.Apps.{the_task, is_extended}
use Rattle.abstract_state.specs.declared.value.ComponentNo.{ComponentNo}
use Rattle.abstract_state.specs.declared.value.{Val.TheVariants.{Waiting}, PartValue.TheVariants.{OfTask, OfEvent}}
use Rattle.abstract_state.specs.declared.value.Component.TheVariants as component
use Rattle.abstract_state.specs.Components.{component_number}
use Rattle.flow_model.specs.declared.case.EffectCase.{EffectCase}
use Rattle.flow_model.specs.declared.case.Asked.TheVariants as asked
use Rattle.flow_model.specs.declared.test.Condition.{Condition}
use Rattle.flow_model.specs.declared.test.Test.TheVariants as test
use Rattle.flow_model.specs.declared.change.Update.TheVariants as update
use Rattle.flow_model.specs.declared.runner.Runner.{Runner}
use Rattle.flow_model.specs.declared.runner.Runner.TheVariants as runner
use Rattle.flow_model.specs.{Runners.{change}, Cases.{condition, effect_case, goes_on}}
use Rattle.flow_effects.specs.{Conditions.{of_task}, Moves.{refuses}, TaskEnds.{refused_holding}}

-- an event of the task is set, or isn't
abbrev pub of_event : App → TaskNo → Bool → ℕ → Condition
of_event app t set k = condition (component_number app (component.Event t (event_no k))) (test.Is (OfEvent set))

-- The number of an event's component. Those of a task's own events stand side by side, so that it is told by the one before.
abbrev pub event_component : App → TaskNo → ℕ → ℕ
event_component app t k = component_number app (component.Event t (event_no k))

abbrev pub IsBeforeEvent : App → TaskNo → ℕ → ComponentNo → Type 0
IsBeforeEvent app t k x = x.0 + 1 ≡ event_component app t k

-- the task's own events that it waits for
abbrev pub awaited_events : App → TaskNo → Mask → List ℕ
awaited_events app t m = bits_of (bit_and m.0 (the_task app t.0).own.0)

-- one is set, and the task goes on
abbrev pub goes_on_by : App → TaskNo → BlockNo → ℕ → EffectCase
goes_on_by app t n k = goes_on (runner.Task t) n (of_task t test.HoldsNothing ∷ of_event app t true k ∷ []) asked.No (Some status.Ok)

-- none is set, and the task waits where it stands
abbrev pub waiting_conditions : App → TaskNo → Mask → List Condition
waiting_conditions app t m = of_task t test.HoldsNothing ∷ map (of_event app t false) (awaited_events app t m)

abbrev pub waits_by : TaskNo → BlockNo → List Condition → EffectCase
waits_by t b conditions = effect_case conditions (change t.0 (update.Set (OfTask (Waiting b))) ∷ []) asked.Left (Some status.Ok) point.Idle

abbrev pub waits : App → TaskNo → BlockNo → Mask → EffectCase
waits app t b m = waits_by t b (waiting_conditions app t m)

abbrev pub extended_cases : App → TaskNo → BlockNo → BlockNo → Mask → List EffectCase
extended_cases app t b n m = refused_holding t n ∷ waits app t b m ∷ map (goes_on_by app t n) (awaited_events app t m)

abbrev pub wait_cases : App → Runner → BlockNo → BlockNo → Mask → List EffectCase
wait_cases app (runner.Task t) b n m =
    if is_extended app t.0 then extended_cases app t b n m else refuses (runner.Task t) n status.Access
wait_cases app (runner.Routine k z over) b n m = refuses (runner.Routine k z over) n status.CallLevel
