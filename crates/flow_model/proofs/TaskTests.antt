-- What a test of what a task holds reads of a state.
use Rattle.std.proofs.Common.{◌≡◌, ◌<◌, length, refl, ap, ◌∙◌}
use Rattle.osek_values.specs.declared.{mask.Mask.{Mask}, numbers.{TaskNo.{TaskNo}}}
use Rattle.osek_standard.specs.declared.{app.App.{App}, state.State.{State}, task_state.Activity.{Activity}}
use Rattle.osek_standard.specs.declared.task_state.Activity.TheVariants as activity
use Rattle.osek_standard.specs.{TaskStates.{held, held_in}, States.{task_state}}
use Rattle.abstract_state.specs.Components.{abstract_of, component_count, part_of, value_in}
use Rattle.abstract_state.proofs.ComponentLaws.{task_at_its_number, task_counted}
use Rattle.flow_model.specs.declared.test.Test.TheVariants as test
use Rattle.flow_model.specs.{Values.{held_of}, Tests.{is_none_of, passes}}

held_there : (a : Activity) → held_of (value_in a) ≡ held_in a
held_there activity.Suspended = refl
held_there (activity.Live x) = refl
held_there (activity.Waiting b) = refl

module _ (app : App) (s : State) (t : TaskNo) (known : t.0 < length app.tasks) where
  -- it holds none of these resources
  pub lacks_is : (m : Mask) → passes (test.HoldsNoneOf m) (abstract_of app s t.0) ≡ is_none_of m.0 (held (task_state s t.0))
  lacks_is m =
      ap (λ k. passes (test.HoldsNoneOf m) (part_of s k)) (task_at_its_number app t.0 known)
      ∙ ap (is_none_of m.0) (held_there (task_state s t.0).activity)

pub task_counted_there : (app : App) (t : TaskNo) → t.0 < length app.tasks → t.0 < component_count app
task_counted_there app t known = task_counted app t.0 known
