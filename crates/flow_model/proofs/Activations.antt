-- What an activation does to the components.
use Rattle.std.proofs.Common.{◌≡◌, ℕ, ◌+◌, ◌<◌, ◌≤◌, Bool, true, false, List, [], ◌∷◌, ◌++◌, length, refl, sym, ap, ◌∙◌, arith}
use Rattle.std.specs.Prelude.{if◌then◌else◌}
use Rattle.std.proofs.lemmas.Bool.{leb-false, lt-ltb}
use Rattle.osek_values.specs.{declared.{limits.TheConstants.{MAX_ACTIVATIONS}, numbers.TaskNo.{TaskNo}}, Bits.{has_bit}, Numbers.{task_no}}
use Rattle.osek_standard.specs.{declared.{app.App.{App}, state.State.{State}, task_state.{TaskState.{TaskState}, Activity.{Activity}}}, Apps.{the_task, no_task}, TaskStates.{further_in, is_live, is_live_activity}}
use Rattle.osek_standard.specs.{States.{place_in, task_state, with_task}, Line.{last_in_line, with_line}, Services.{activated, activated_by, activated_state, is_full, is_full_by}}
use Rattle.osek_standard.specs.declared.task_state.Activity.TheVariants as activity
use Rattle.abstract_state.specs.declared.value.{Component.{Component}, PartValue.TheVariants.{OfTask}, Val.TheVariants.{Live}}
use Rattle.abstract_state.specs.declared.value.Component.TheVariants as component
use Rattle.abstract_state.specs.Components.{component_at, component_count, abstract_of, live_val, part_of, value_in}
use Rattle.flow_model.specs.declared.change.Update.TheVariants as update
use Rattle.flow_model.specs.{Values.{activated_more}, Tests.{value_after}, Changes.{activating, activating_more}}
use Rattle.flow_model.proofs.{BitsOf.{no_bit}, Moves.{activity_parts}, Writes.{task_written}}

-- the line is no component's
pub line_part : (s : State) (line : List TaskNo) (k : Component) → part_of (with_line s line) k ≡ part_of s k
line_part s line (component.Task t) = refl
line_part s line (component.Event t j) = refl
line_part s line (component.Alarm a) = refl
line_part s line (component.Source k) = refl

-- a Live task has one further activation more, and stands where it stood, with the events that it had
more_value : (app : App) (t : ℕ) (x : TaskState) (a : Activity) → is_live_activity a ≡ true → further_in a < MAX_ACTIVATIONS → activated_more (value_in a) ≡ value_in (activated_by app t x a).activity
more_value app t x activity.Suspended live few = absurd (cc)
more_value app t x (activity.Live y) live few =
    ap (λ (b : Bool). Live (live_val y.at.block (if b then y.further + 1 else y.further) y.inside y.held)) (lt-ltb y.further MAX_ACTIVATIONS few)
more_value app t x (activity.Waiting b) live few = absurd (cc)

more_events : (app : App) (t : ℕ) (x : TaskState) (a : Activity) → is_live_activity a ≡ true → (activated_by app t x a).events ≡ x.events
more_events app t x activity.Suspended live = absurd (cc)
more_events app t x (activity.Live y) live = refl
more_events app t x (activity.Waiting b) live = refl

pub more_place : (app : App) (t : ℕ) (x : TaskState) (a : Activity) → is_live_activity a ≡ true → place_in (activated_by app t x a).activity ≡ place_in a
more_place app t x activity.Suspended live = absurd (cc)
more_place app t x (activity.Live y) live = refl
more_place app t x (activity.Waiting b) live = absurd (cc)

few_by : (n : ℕ) (a : Activity) → is_live_activity a ≡ true → is_full_by n a ≡ false → n ≤ MAX_ACTIVATIONS → further_in a < MAX_ACTIVATIONS
few_by n activity.Suspended live room most = absurd (cc)
few_by n (activity.Live y) live room most = let below = leb-false n (y.further + 1) room in omega (arith, below, most)
few_by n (activity.Waiting b) live room most = absurd (cc)

module _ (app : App) where
  -- each component after the activation of a task that is suspended
  pub activated_parts : (s : State) (t : ℕ) → t < length s.tasks → t < length app.tasks → (c : ℕ) → c < component_count app → abstract_of app (last_in_line (with_task s t (activated_state app t)) t) c ≡ value_after (activating app t) c (abstract_of app s c)
  activated_parts s t here known c lt = line_part (with_task s t (activated_state app t)) (s.line ++ task_no t ∷ []) (component_at app c) ∙ task_written app t (the_task app t).own.0 false known (λ k e. e) s (activated_state app t) here
      (λ k below own. no_bit k ∙ sym (ap (λ (b : Bool). if b then false else has_bit (task_state s t).events.0 k) own)) c lt

  -- and after one of a task that is Live
  pub more_parts : (s : State) (t : ℕ) → t < length s.tasks → t < length app.tasks → is_live (task_state s t) ≡ true → is_full app s t ≡ false → (c : ℕ) → c < component_count app →
      abstract_of app (activated app s t) c ≡ value_after (activating_more t) c (abstract_of app s c)
  more_parts s t here known live room c lt =
      let x = task_state s t in
      let y : TaskState = activated_by app t x x.activity in
      let few = few_by (the_task app t).activation x.activity live room (app.valid.activations t no_task known).1 in
      line_part (with_task s t y) (s.line ++ task_no t ∷ []) (component_at app c)
      ∙ activity_parts app s t y here (more_events app t x x.activity live) update.More known (ap OfTask (more_value app t x x.activity live few)) c lt
