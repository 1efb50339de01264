-- ClearEvent and GetEvent are served by their cases.
use Rattle.std.proofs.Common.{ℕ, ◌<◌, Bool, false, [], ◌∷◌, length, refl, sym, ap, subst, ◌∙◌, inl, inr}
use Rattle.std.specs.Prelude.{if◌then◌else◌, bit_and, bit_xor}
use Rattle.std.proofs.lemmas.Bool.{cases_Bool}
use Rattle.std.specs.declared.option.Option.{Option}
use Rattle.osek_values.specs.{Numbers.{mask}, declared.numbers.{TaskNo.{TaskNo}, SourceNo.{SourceNo}}}
use Rattle.abstract_state.specs.declared.value.ComponentNo.{ComponentNo}
use Rattle.osek_values.specs.declared.notes.Value.TheVariants as value
use Rattle.osek_values.specs.declared.status.Ask.TheVariants as ask
use Rattle.osek_values.specs.declared.status.Status.TheVariants as status
use Rattle.osek_values.specs.Bits.{has_bit}
use Rattle.osek_standard.specs.{declared.{app.App.{App}, state.{State.{State}, Caller.TheVariants.{Task, Routine}}}, Apps.{the_task, is_extended}, TaskStates.{is_suspended}}
use Rattle.osek_standard.specs.{States.{task_state}, Services.{Answer, clear_event, get_event, refused, accepted, accepted_with, with_events}}
use Rattle.abstract_state.specs.Components.{abstract_of}
use Rattle.flow_model.specs.declared.test.Test.TheVariants as test
use Rattle.flow_model.specs.declared.runner.Runner.TheVariants as runner
use Rattle.flow_model.specs.{Cases.{condition}, Changes.{event_changes}}
use Rattle.flow_model.proofs.{ChangeLaws.{passes_none}, BitsOf.{bit_within, bit_cleared, own_bit}, LinesAfter.{line_stays}, Writes.{events_written}}
use Rattle.flow_services.specs.declared.occasion.Queued.TheVariants as queued
use Rattle.flow_services.specs.{Occasions.{ServiceCase, refused_case, accepted_case}, Services.{own_among, event_clearings, event_readings}}
use Rattle.flow_services.proofs.{Seeing.{Sees, off_there, on_there, off_or_on}, Serving.{Serves, IsServed, keeps_serves, always_served, stays_with, two_served}}

module _ (app : App) (s m : State) where
  module _ (t : TaskNo) (e : ℕ) (known : t.0 < length app.tasks) (here : t.0 < length m.tasks) where
    abbrev cleared : ℕ
    cleared = bit_xor (task_state m t.0).events.0 (bit_and (task_state m t.0).events.0 e)

    abbrev clears : ServiceCase
    clears = accepted_case [] (event_changes app t.0 (own_among app t.0 e) false) queued.Nothing

    cleared_serves : Serves app m clears (accepted (with_events m t.0 cleared) ask.No)
    cleared_serves = record {
      parts = λ c lt. events_written app t.0 (own_among app t.0 e) false known (λ k h. bit_within e (the_task app t.0).own.0 k h) m (record (task_state m t.0) { events = mask cleared }) here
          (λ k below own. bit_cleared (task_state m t.0).events.0 e k
          ∙ ap (λ (b : Bool). if b then false else has_bit (task_state m t.0).events.0 k) (sym (own_bit e (the_task app t.0).own.0 k own))) c lt refl;
      status = refl;
      ask = refl;
      stays = stays_with m t.0 (record (task_state m t.0) { events = mask cleared }) here (λ l. refl);
      line = line_stays m (with_events m t.0 cleared) refl;
    }

    pub task_clearing_served : IsServed app s m (event_clearings app (runner.Task t) e) (clear_event app m (Task t) e)
    unfolding clear_event
    task_clearing_served = elim (cases_Bool (is_extended app t.0)) [
      | inl extended ↦ (rw extended (always_served app s m clears (accepted (with_events m t.0 cleared) ask.No) (passes_none app (abstract_of app s)) cleared_serves))
      | inr basic ↦ (rw basic (always_served app s m (refused_case [] status.Access) (refused m status.Access) (passes_none app (abstract_of app s)) (keeps_serves app m _ _ _)))
    ]

  pub routine_clearing_served : (k : SourceNo) (z : ComponentNo) (over : Option TaskNo) (e : ℕ) → IsServed app s m (event_clearings app (runner.Routine k z over) e) (clear_event app m (Routine k) e)
  unfolding clear_event
  routine_clearing_served k z over e = always_served app s m (refused_case [] status.CallLevel) (refused m status.CallLevel) (passes_none app (abstract_of app s)) (keeps_serves app m _ _ _)

  module _ (t : ℕ) (known : t < length app.tasks) (sees : Sees app s m) where
    abbrev off : ServiceCase
    off = refused_case (condition t test.Suspended ∷ []) status.State

    abbrev on : ServiceCase
    on = accepted_case (condition t test.NotSuspended ∷ []) [] queued.Nothing

    abbrev read : Bool → Answer
    read b = if b then refused m status.State else accepted_with m (value.Mask (task_state m t).events)

    reads_served : IsServed app s m (off ∷ on ∷ []) (read (is_suspended (task_state m t)))
    reads_served = two_served app s m off on (read (is_suspended (task_state m t)))
        (λ passing. subst (λ (b : Bool). Serves app m off (read b)) (sym (off_there app s m t known sees passing)) (keeps_serves app m _ _ _))
        (λ passing. subst (λ (b : Bool). Serves app m on (read b)) (sym (on_there app s m t known sees passing)) (keeps_serves app m _ _ _))
        (off_or_on app s t known)

    pub reading_served : IsServed app s m (event_readings app t) (get_event app m t)
    unfolding get_event
    reading_served = elim (cases_Bool (is_extended app t)) [
      | inl extended ↦ (rw extended reads_served)
      | inr basic ↦ (rw basic (always_served app s m (refused_case [] status.Access) (refused m status.Access) (passes_none app (abstract_of app s)) (keeps_serves app m _ _ _)))
    ]
