-- The services on alarms are served by their cases.
use Rattle.std.proofs.Common.{◌≡◌, ℕ, ◌<◌, Bool, true, false, not, List, [], ◌∷◌, length, refl, sym, ap, subst, ◌∙◌, inl, inr, ◌⊎◌}
use Rattle.std.specs.Prelude.{if◌then◌else◌, ◌+◌, ◌%◌}
use Rattle.osek_values.specs.Numbers.{alarm_no}
use Rattle.osek_values.specs.declared.status.Ask.TheVariants as ask
use Rattle.osek_values.specs.declared.status.Status.TheVariants as status
use Rattle.osek_standard.specs.{declared.{app.App.{App}, state.{State.{State}, AlarmState.{AlarmState, TheVariants.{Idle, Armed}}}}, Apps.{max_of}}
use Rattle.osek_standard.specs.States.{alarm_state, with_alarm}
use Rattle.osek_standard.specs.Services.{Answer, is_idle, due, refused, accepted, value_of, time_left, set_rel_alarm, set_abs_alarm, cancel_alarm, get_alarm}
use Rattle.abstract_state.specs.declared.value.Component.TheVariants as component
use Rattle.abstract_state.specs.Components.{component_count, component_number, abstract_of, is_armed}
use Rattle.abstract_state.proofs.Numbers.{number_known}
use Rattle.flow_model.specs.{declared.test.Condition.{Condition}, Tests.{PassesAll}, Changes.{alarm_change}}
use Rattle.flow_model.proofs.{ChangeLaws.{passes_one, one_passes}, LinesAfter.{line_stays}, Writes.{alarm_written}}
use Rattle.flow_services.specs.declared.occasion.Queued.TheVariants as queued
use Rattle.flow_services.specs.{Occasions.{ServiceCase, refused_case, accepted_case}, Services.{alarm_is, armings, cancellings, alarm_readings, is_rel_refused, is_abs_refused}}
use Rattle.flow_services.proofs.{Seeing.{tests_alarm, alarm_tested}, Serving.{Serves, IsServed, Stays, keeps_serves, two_served}}

armed_not_idle : (y : AlarmState) → not (is_idle y) ≡ is_armed y
armed_not_idle Idle = refl
armed_not_idle (Armed at cycle) = refl

idle_not_armed : (y : AlarmState) → is_idle y ≡ not (is_armed y)
idle_not_armed Idle = refl
idle_not_armed (Armed at cycle) = refl

pub alarm_stays : (m : State) (a : ℕ) (y : AlarmState) → Stays m (with_alarm m a y)
alarm_stays m a y = record { processor = refl; sources = refl; live = λ t l. refl }

module _ (app : App) (s m : State) (a : ℕ) (known : a < length app.alarms) (here : a < length m.alarms) (same : is_armed (alarm_state m a) ≡ is_armed (alarm_state s a)) where
  counted : component_number app (component.Alarm (alarm_no a)) < component_count app
  counted = number_known app (component.Alarm (alarm_no a)) known

  -- a service with a case for an armed alarm and one for an idle one
  by_alarm : (first : Bool) (x y : ServiceCase) (answer : Answer) → x.conditions ≡ alarm_is app a first ∷ [] → y.conditions ≡ alarm_is app a (not first) ∷ [] →
      (is_armed (alarm_state m a) ≡ first → Serves app m x answer) → (is_armed (alarm_state m a) ≡ not first → Serves app m y answer) → IsServed app s m (x ∷ y ∷ []) answer
  by_alarm first x y answer of_x of_y serves_x serves_y =
      two_served app s m x y answer (λ passing. serves_x (armed_by x first of_x passing)) (λ passing. serves_y (armed_by y (not first) of_y passing)) either
    where
      armed_by : (z : ServiceCase) (f : Bool) → z.conditions ≡ alarm_is app a f ∷ [] → PassesAll app z.conditions (abstract_of app s) → is_armed (alarm_state m a) ≡ f
      armed_by z f is passing = same ∙ alarm_tested app s a known f (one_passes app (abstract_of app s) (alarm_is app a f) (subst (λ (cs : List Condition). PassesAll app cs (abstract_of app s)) is passing) counted)

      passes_by : (z : ServiceCase) (f : Bool) → z.conditions ≡ alarm_is app a f ∷ [] → is_armed (alarm_state s a) ≡ f → PassesAll app z.conditions (abstract_of app s)
      passes_by z f is e = subst (λ (cs : List Condition). PassesAll app cs (abstract_of app s)) (sym is) (passes_one app (abstract_of app s) (alarm_is app a f) (tests_alarm app s a known f e))

      either_of : (f : Bool) → x.conditions ≡ alarm_is app a f ∷ [] → y.conditions ≡ alarm_is app a (not f) ∷ [] → (b : Bool) → is_armed (alarm_state s a) ≡ b → PassesAll app x.conditions (abstract_of app s) ⊎ PassesAll app y.conditions (abstract_of app s)
      either_of true is_x is_y true e = inl (passes_by x true is_x e)
      either_of true is_x is_y false e = inr (passes_by y false is_y e)
      either_of false is_x is_y true e = inr (passes_by y true is_y e)
      either_of false is_x is_y false e = inl (passes_by x false is_x e)

      either : PassesAll app x.conditions (abstract_of app s) ⊎ PassesAll app y.conditions (abstract_of app s)
      either = either_of first of_x of_y (is_armed (alarm_state s a)) refl

  -- the alarm is armed or idle after the call
  written_serves : (conditions : List Condition) (y : AlarmState) → Serves app m (accepted_case conditions (alarm_change app a (is_armed y) ∷ []) queued.Nothing) (accepted (with_alarm m a y) ask.No)
  written_serves conditions y = record {
    parts = λ c lt. alarm_written app m a y here known c lt;
    status = refl;
    ask = refl;
    stays = alarm_stays m a y;
    line = line_stays m (with_alarm m a y) refl;
  }

  abbrev arms : Bool → Bool → AlarmState → Answer
  arms armed void y = if armed then refused m status.State else if void then refused m status.Value else accepted (with_alarm m a y) ask.No

  idle_case : (void : Bool) (at cycle : ℕ) → Serves app m (if void then refused_case (alarm_is app a false ∷ []) status.Value else accepted_case (alarm_is app a false ∷ []) (alarm_change app a true ∷ []) queued.Nothing) (if void then refused m status.Value else accepted (with_alarm m a (Armed at cycle)) ask.No)
  idle_case true at cycle = keeps_serves app m _ _ _
  idle_case false at cycle = written_serves (alarm_is app a false ∷ []) (Armed at cycle)

  idle_conditions : (void : Bool) → (if void then refused_case (alarm_is app a false ∷ []) status.Value else accepted_case (alarm_is app a false ∷ []) (alarm_change app a true ∷ []) queued.Nothing).conditions ≡ alarm_is app a false ∷ []
  idle_conditions true = refl
  idle_conditions false = refl

  arming_served : (void : Bool) (at cycle : ℕ) → IsServed app s m (armings app a void) (arms (not (is_idle (alarm_state m a))) void (Armed at cycle))
  arming_served void at cycle = by_alarm true _ _ _ refl (idle_conditions void)
      (λ on. subst (λ (b : Bool). Serves app m (refused_case (alarm_is app a true ∷ []) status.State) (arms b void (Armed at cycle))) (sym (armed_not_idle (alarm_state m a) ∙ on)) (keeps_serves app m _ _ _))
      (λ off. subst (λ (b : Bool). Serves app m (if void then refused_case (alarm_is app a false ∷ []) status.Value else accepted_case (alarm_is app a false ∷ []) (alarm_change app a true ∷ []) queued.Nothing) (arms b void (Armed at cycle))) (sym (armed_not_idle (alarm_state m a) ∙ off)) (idle_case void at cycle))

  pub rel_arming_served : (increment cycle : ℕ) → IsServed app s m (armings app a (is_rel_refused app a increment cycle)) (set_rel_alarm app m a increment cycle)
  unfolding set_rel_alarm
  rel_arming_served increment cycle = arming_served (is_rel_refused app a increment cycle) ((value_of app m a + increment) % (max_of app a + 1)) cycle

  pub abs_arming_served : (start cycle : ℕ) → IsServed app s m (armings app a (is_abs_refused app a start cycle)) (set_abs_alarm app m a start cycle)
  unfolding set_abs_alarm
  abs_arming_served start cycle = arming_served (is_abs_refused app a start cycle) start cycle

  abbrev cancels : Bool → Answer
  cancels idle = if idle then refused m status.NoFunc else accepted (with_alarm m a Idle) ask.No

  pub cancelling_served : IsServed app s m (cancellings app a) (cancel_alarm app m a)
  unfolding cancel_alarm
  cancelling_served = by_alarm false _ _ _ refl refl
      (λ off. subst (λ (b : Bool). Serves app m (refused_case (alarm_is app a false ∷ []) status.NoFunc) (cancels b)) (sym (idle_not_armed (alarm_state m a) ∙ ap not off)) (keeps_serves app m _ _ _))
      (λ on. subst (λ (b : Bool). Serves app m (accepted_case (alarm_is app a true ∷ []) (alarm_change app a false ∷ []) queued.Nothing) (cancels b)) (sym (idle_not_armed (alarm_state m a) ∙ ap not on)) (written_serves (alarm_is app a true ∷ []) Idle))

  time_when_idle : (y : AlarmState) → is_armed y ≡ false → Serves app m (refused_case (alarm_is app a false ∷ []) status.NoFunc) (time_left app m a (due y))
  time_when_idle Idle off = keeps_serves app m _ _ _
  time_when_idle (Armed at cycle) off = absurd (cc)

  time_when_armed : (y : AlarmState) → is_armed y ≡ true → Serves app m (accepted_case (alarm_is app a true ∷ []) [] queued.Nothing) (time_left app m a (due y))
  time_when_armed Idle on = absurd (cc)
  time_when_armed (Armed at cycle) on = keeps_serves app m _ _ _

  pub alarm_reading_served : IsServed app s m (alarm_readings app a) (get_alarm app m a)
  unfolding get_alarm
  alarm_reading_served = by_alarm false _ _ _ refl refl (time_when_idle (alarm_state m a)) (time_when_armed (alarm_state m a))
