-- What tests of a task's component say of the task's state.
use Rattle.std.proofs.Common.{◌≡◌, ℕ, ◌<◌, Bool, true, false, not, List, [], ◌∷◌, length, refl, sym, ap, ◌∙◌, IsTrue}
use Rattle.std.specs.Prelude.{◌==◌}
use Rattle.std.proofs.lemmas.Bool.{not-false, not-true}
use Rattle.osek_values.specs.declared.numbers.{TaskNo.{TaskNo}, BlockNo.{BlockNo}, ResNo.{ResNo}}
use Rattle.osek_standard.specs.declared.{app.App.{App}, state.{State.{State}, Processor.{Processor}}, task_state.Activity.{Activity}}
use Rattle.osek_standard.specs.declared.task_state.Activity.TheVariants as activity
use Rattle.osek_standard.specs.{TaskStates.{further, further_in, held, held_in, is_inside, is_inside_in, is_live_activity}, States.{task_state, place_by, place_in}, Services.{holds_some}}
use Rattle.abstract_state.specs.{declared.value.{Val.TheVariants.{Live}, PartValue.TheVariants.{OfTask}}, Components.{component_count, abstract_of, value_in, live_val}}
use Rattle.abstract_state.proofs.ComponentLaws.{task_counted}
use Rattle.flow_model.specs.declared.test.Test.{Test}
use Rattle.flow_model.specs.declared.test.Test.TheVariants as test
use Rattle.flow_model.specs.declared.runner.Runner.TheVariants as runner
use Rattle.flow_model.specs.{Values.{held_of, further_of}, Tests.{passes, PassesAll}, Runners.{Stands}}
use Rattle.flow_model.proofs.ChangeLaws.{one_passes, passes_one}
use Rattle.flow_services.proofs.Seeing.{task_value}
use Rattle.flow_effects.specs.{Conditions.{of_task}, TaskEnds.{further_test}}

pub held_value : (a : Activity) → held_of (value_in a) ≡ held_in a
held_value activity.Suspended = refl
held_value (activity.Live x) = refl
held_value (activity.Waiting b) = refl

further_value : (a : Activity) → further_of (value_in a) ≡ further_in a
further_value activity.Suspended = refl
further_value (activity.Live x) = refl
further_value (activity.Waiting b) = refl

-- a Live activity by its value
pub live_value : (n : BlockNo) (a : Activity) → is_live_activity a ≡ true → (place_in a).block ≡ n → value_in a ≡ Live (live_val n (further_in a) (is_inside_in a) (held_in a))
live_value n activity.Suspended e at = absurd (cc)
live_value n (activity.Live x) e at = ap (λ (b : BlockNo). Live (live_val b x.further x.inside x.held)) at
live_value n (activity.Waiting b) e at = absurd (cc)

module _ (app : App) (s : State) (t : TaskNo) (known : t.0 < length app.tasks) where
  value : abstract_of app s t.0 ≡ OfTask (value_in (task_state s t.0).activity)
  value = task_value app s t.0 known

  pub test_value : (x : Test) → passes x (abstract_of app s t.0) ≡ passes x (OfTask (value_in (task_state s t.0).activity))
  test_value x = ap (passes x) value

  pub counted : t.0 < component_count app
  counted = task_counted app t.0 known

  -- a condition on the task alone
  pub task_passes : (x : Test) → PassesAll app (of_task t x ∷ []) (abstract_of app s) → IsTrue (passes x (abstract_of app s t.0))
  task_passes x h = one_passes app (abstract_of app s) (of_task t x) h counted

  pub passes_task : (x : Test) → IsTrue (passes x (abstract_of app s t.0)) → PassesAll app (of_task t x ∷ []) (abstract_of app s)
  passes_task x h = passes_one app (abstract_of app s) (of_task t x) h

  -- whether it holds resources
  pub some_is : passes test.HoldsSome (abstract_of app s t.0) ≡ holds_some s t.0
  some_is = test_value test.HoldsSome ∙ ap (λ (h : List ResNo). not (length h == 0)) (held_value (task_state s t.0).activity)

  nothing_is : passes test.HoldsNothing (abstract_of app s t.0) ≡ (length (held (task_state s t.0)) == 0)
  nothing_is = test_value test.HoldsNothing ∙ ap (λ (h : List ResNo). length h == 0) (held_value (task_state s t.0).activity)

  pub holds_none : IsTrue (passes test.HoldsNothing (abstract_of app s t.0)) → holds_some s t.0 ≡ false
  holds_none h = ap (λ (b : Bool). not b) (sym nothing_is ∙ h)

  pub none_holds : holds_some s t.0 ≡ false → IsTrue (passes test.HoldsNothing (abstract_of app s t.0))
  none_holds e = nothing_is ∙ not-false (length (held (task_state s t.0)) == 0) e

  -- whether a further activation is left
  pub further_is : (more : Bool) → IsTrue (passes (further_test more) (abstract_of app s t.0)) → (further (task_state s t.0) == 0) ≡ not more
  further_is true h = not-true (further (task_state s t.0) == 0)
      (ap (λ (n : ℕ). not (n == 0)) (sym (further_value (task_state s t.0).activity)) ∙ sym (test_value test.SomeFurther) ∙ h)
  further_is false h = ap (λ (n : ℕ). n == 0) (sym (further_value (task_state s t.0).activity)) ∙ sym (test_value test.NoFurther) ∙ h

  pub is_further : (more : Bool) → (further (task_state s t.0) == 0) ≡ not more → IsTrue (passes (further_test more) (abstract_of app s t.0))
  is_further true e = test_value test.SomeFurther ∙ ap (λ (n : ℕ). not (n == 0)) (further_value (task_state s t.0).activity) ∙ ap not e
  is_further false e = test_value test.NoFurther ∙ ap (λ (n : ℕ). n == 0) (further_value (task_state s t.0).activity) ∙ e

-- the running task stands at the block
pub stands_block : (app : App) (s : State) (t : TaskNo) (b : BlockNo) → Stands app s (runner.Task t) b → (place_in (task_state s t.0).activity).block ≡ b
stands_block app s t b h = sym (ap (λ (p : Processor). (place_by s p).block) h.runs.runs) ∙ h.block

-- and has this value
pub stands_value : (app : App) (s : State) (t : TaskNo) (b : BlockNo) → Stands app s (runner.Task t) b → value_in (task_state s t.0).activity ≡ Live (live_val b (further (task_state s t.0)) (is_inside (task_state s t.0)) (held (task_state s t.0)))
stands_value app s t b h = live_value b (task_state s t.0).activity h.runs.has.1 (stands_block app s t b h)
