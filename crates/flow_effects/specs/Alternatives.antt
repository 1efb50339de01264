-- Cases that differ in one condition alone, as those of WaitEvent in which the task goes on.
use Rattle.std.specs.{Prelude.{◌≡◌, ◌≢◌, ◌<◌, true, List, [], ◌∷◌, ◌++◌, map, Some, None, Contains}, declared.option.Option.{Option}}
use Rattle.osek_values.specs.declared.{mask.Mask.{Mask}, numbers.TaskNo.{TaskNo}}
use Rattle.osek_values.specs.declared.status.Status.TheVariants as status
use Rattle.osek_standard.specs.declared.app.App.{App}
use Rattle.osek_standard.specs.declared.point.Point.{Point}
use Rattle.osek_standard.specs.declared.point.Point.TheVariants as point
use Rattle.osek_standard.specs.declared.block.Kind.TheVariants as kind
use Rattle.osek_standard.specs.Apps.{the_block, is_extended}
use Rattle.abstract_state.specs.{declared.value.PartValue.{PartValue}, Components.{component_count}}
use Rattle.flow_model.specs.declared.{case.EffectCase.{EffectCase}, test.Condition.{Condition}}
use Rattle.flow_model.specs.declared.case.Asked.TheVariants as asked
use Rattle.flow_model.specs.declared.case.Stay.TheVariants as stay
use Rattle.flow_model.specs.declared.test.Test.TheVariants as test
use Rattle.flow_model.specs.declared.runner.Runner.TheVariants as runner
use Rattle.flow_model.specs.{Cases.{effect_by, goes_on}, Runners.{OwnsBlock}, Tests.{value_after}}
use Rattle.flow_effects.specs.declared.{effects.{Alternatives.{Alternatives}, Effects.{Effects}}, waiting.{Wait.{Wait}, WaitConditions.{WaitConditions}}}
use Rattle.flow_effects.specs.CallNames as call
use Rattle.flow_effects.specs.{Conditions.{of_task}, TaskEnds.{refused_holding}, Waiting.{of_event, awaited_events, waiting_conditions, waits_by}}

-- the case with one condition more
abbrev pub with_condition : EffectCase → Condition → EffectCase
with_condition effect x = effect_by (effect.conditions ++ x ∷ []) effect.changes effect.leaving

abbrev pub alternative_cases : Alternatives → List EffectCase
alternative_cases x = map (with_condition x.effect) x.conditions

abbrev pub with_alternatives : List EffectCase → Option Alternatives → List EffectCase
with_alternatives cases None = cases
with_alternatives cases (Some x) = cases ++ alternative_cases x

abbrev pub all_cases : Effects → List EffectCase
all_cases x = with_alternatives x.cases x.alternatives

-- Nothing is asked, the processor stays at a point, and what one condition asks of a component is all that the case asks of it,
-- and the effect leaves it as it is.
pub record AreApart (app : App) (a : Alternatives) : Type 0 where
  pub asked : a.effect.leaving.asked ≡ asked.No
  pub point : Point
  pub stay : a.effect.leaving.stay ≡ stay.At point
  pub known : (y : Condition) → Contains a.conditions y → y.component.0 < component_count app
  pub free : (x y : Condition) → Contains a.effect.conditions x → Contains a.conditions y → x.component.0 ≢ y.component.0
  pub kept : (y : Condition) (v : PartValue) → Contains a.conditions y → value_after a.effect.changes y.component.0 v ≡ v

-- ---- WaitEvent of an extended task

pub record IsWaitAt (app : App) (p : Point) (w : Wait) : Type 0 where
  pub point : p ≡ point.Task w.block
  pub owns : OwnsBlock app (runner.Task w.task) w.block
  pub kind : (the_block app w.block.0).kind ≡ kind.Call (call.Mask call.WaitEvent w.mask)
  pub next : w.next ≡ (the_block app w.block.0).next
  pub extended : is_extended app w.task.0 ≡ true

-- what its task and its mask ask, wherever it stands
abbrev pub wait_conditions : App → TaskNo → Mask → WaitConditions
wait_conditions app t m = record { waits = waiting_conditions app t m; goes_on = map (of_event app t true) (awaited_events app t m) }

-- an event is set, and the task goes on
abbrev pub going_on_by : Wait → List Condition → Alternatives
going_on_by w conditions = record { effect = goes_on (runner.Task w.task) w.next (of_task w.task test.HoldsNothing ∷ []) asked.No (Some status.Ok); conditions = conditions }

abbrev pub effects_by : Wait → WaitConditions → Effects
effects_by w x = record { cases = refused_holding w.task w.next ∷ waits_by w.task w.block x.waits ∷ []; alternatives = Some (going_on_by w x.goes_on); wait = Some w }

abbrev pub going_on : App → Wait → Alternatives
going_on app w = going_on_by w (wait_conditions app w.task w.mask).goes_on

abbrev pub wait_effects : App → Wait → Effects
wait_effects app w = effects_by w (wait_conditions app w.task w.mask)
