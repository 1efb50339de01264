-- A SetEvent that names an event that a task waits for releases it.
use Rattle.std.proofs.Common.{◌≡◌, ℕ, ◌<◌, Bool, true, not, length, refl, sym, subst, ap, ◌∙◌, inl, inr, Some, None, get_or-set_same}
use Rattle.std.proofs.lemmas.{Bool.{cases_lt, false≢true}, List.{get_or_past}}
use Rattle.std.specs.declared.option.Option.{Option}
use Rattle.osek_values.specs.declared.{mask.Mask.{Mask}, numbers.{BlockNo.{BlockNo}, TaskNo.{TaskNo}}}
use Rattle.osek_values.specs.Numbers.{mask, task_no}
use Rattle.oil_system.specs.declared.objects.Action.{Action}
use Rattle.oil_system.specs.declared.objects.Action.TheVariants as action
use Rattle.osek_standard.specs.declared.{app.App.{App}, block.Kind.{Kind}, state.{State.{State}, Processor.{Processor}}}
use Rattle.osek_standard.specs.declared.task_state.{TaskState.{TaskState}, Activity.{Activity, TheVariants.{Live, Waiting}}}
use Rattle.osek_standard.specs.{Apps.{awaited, is_extended, the_alarm, the_block}, TaskStates.{is_live, is_live_activity, is_suspended, is_suspended_activity, suspended}, States.{alarm_state, here, task_of, task_state, with_alarm, with_processor}}
use Rattle.osek_standard.specs.{Internal.{kept_by, put_inside, with_inside}, Line.{first_in_line, out_of_line}}
use Rattle.osek_standard.specs.Services.{Answer, acted, due, events_set, expire, is_due_at, own_events, rearmed, released_from, set_event, share, value_of, waits_for, waits_in, woken}
use Rattle.osek_standard.specs.{Effects.{Effect, effect, effect_at, place_at}, Well.{IsActive, Well}}
use Rattle.osek_standard.specs.Dispatch.{Outcome, Keep, To, instruction, outcome_of, processor_for, settled}
use Rattle.osek_standard.specs.declared.block.Kind.TheVariants as kind
use Rattle.osek_standard.specs.declared.state.Processor.TheVariants as processor
use Rattle.osek_standard.proofs.InsideKeeps.{inside_is_live}
use Rattle.kernel_guarantees.specs.{Events.{SetsBy, SetsEvents}, Scheduling.{kind_at}}
use Rattle.kernel_guarantees.proofs.{EventReleases.{after, due_after}, EventSends.{moving}, Letters.{waits_extended}, LockedSteps.{effect_is}, Lookups.{put_task}, Serving.{either_by}}
use Rattle.kernel_guarantees.proofs.CallNames as call

module _ (app : App) where
  -- an outcome leaves who is Live so
  module _ (u : ℕ) where
    abbrev IsLiveIn : State → Type 0
    IsLiveIn r = is_live (task_state r u) ≡ true

    gets_inside : (r : State) (t : ℕ) (b : Bool) → IsLiveIn r → IsLiveIn (with_inside r t b)
    gets_inside r t b h = put_task r t _ (λ v z. v ≡ u → is_live z ≡ true) (λ e. inside_is_live b (task_state r t).activity (subst (λ (n : ℕ). is_live (task_state r n) ≡ true) (sym e) h))
        (λ v e. subst (λ (n : ℕ). is_live (task_state r n) ≡ true) (sym e) h) u refl

    keeping : (r : State) (p : Processor) → IsLiveIn r → IsLiveIn (kept_by app r p)
    keeping r processor.Halted h = h
    keeping r processor.Idle h = h
    keeping r (processor.Running t) h = gets_inside r t.0 _ h
    keeping r (processor.Interrupted k over) h = h

    dispatching : (r : State) (c o : Option TaskNo) → IsLiveIn r → IsLiveIn (with_processor (put_inside app (out_of_line (first_in_line r c) o) o) (processor_for o))
    dispatching r None None h = h
    dispatching r (Some d) None h = h
    dispatching r None (Some t) h = gets_inside r t.0 _ h
    dispatching r (Some d) (Some t) h = gets_inside r t.0 _ h

    pub settled_live : (r : State) (o : Outcome) → IsLiveIn r → IsLiveIn (settled app r o)
    settled_live r Keep h = keeping r r.processor h
    settled_live r (To o) h = dispatching r (task_of r.processor) o h

  -- who waits is a task of the application
  known : (m : State) (t : ℕ) (b : BlockNo) → (task_state m t).activity ≡ Waiting b → t < length m.tasks
  known m t b e = elim (cases_lt t (length m.tasks)) [
    | inl h ↦ h
    | inr past ↦ absurd (let none : task_state m t ≡ suspended = get_or_past m.tasks t suspended past in cc (e, ap (λ (x : TaskState). x.activity) none))
  ]

  module _ (t e : ℕ) (b : BlockNo) (ext : is_extended app t ≡ true) where
    set_wakes : (m : State) → (task_state m t).activity ≡ Waiting b → share (awaited (the_block app b.0).kind) (own_events app m t e) ≡ true → is_live (task_state (set_event app m t e).state t) ≡ true
    unfolding set_event
    set_wakes m waits shared =
        let D : Answer → Type 0 = λ a. is_live (task_state a.state t) ≡ true in
        either_by D (not (is_extended app t)) _ _ (λ no. absurd (false≢true (sym (ap not ext) ∙ no)))
        (λ _. either_by D (is_suspended (task_state m t)) _ _ (λ no. absurd (false≢true (sym (ap is_suspended_activity waits) ∙ no)))
        (λ _. either_by D (waits_for app m t e) _ _ (λ _. woken_live m waits)
        (λ no. absurd (false≢true (sym no ∙ ap (λ (a : Activity). waits_in app a (own_events app m t e)) waits ∙ shared))))) where
          woken_live : (m : State) → (task_state m t).activity ≡ Waiting b → is_live (task_state (woken app m t e) t) ≡ true
          woken_live m waits = ap is_live (get_or-set_same m.tasks t (record { activity = released_from app (task_state m t).activity; events = mask (events_set app m t e) }) suspended (known m t b waits))
              ∙ ap (λ (a : Activity). is_live_activity (released_from app a)) waits

  module _ (s : State) (w : Well app s) (choice : Bool) (active : IsActive s.processor) (t : ℕ) (b : BlockNo) (waits : (task_state s t).activity ≡ Waiting b) where
    abbrev Frees : Effect → Type 0
    Frees e = is_live (task_state e.state t) ≡ true

    still_waits : (task_state (after app s) t).activity ≡ Waiting b
    still_waits = (moving app s t (place_at (the_block app (here s).block.0).next 0) s.processor).waiting b waits

    expired_wakes : (m : State) (a e : ℕ) → is_due_at (due (alarm_state m a)) (value_of app m a) ≡ true → (the_alarm app a).action ≡ action.SetEvent (task_no t) (mask e) → (task_state m t).activity ≡ Waiting b
        → share (awaited (the_block app b.0).kind) (own_events app m t e) ≡ true → is_live (task_state (expire app m a).state t) ≡ true
    unfolding expire
    expired_wakes m a e on act still shared = either_by (λ (x : Answer). is_live (task_state x.state t) ≡ true) (is_due_at (due (alarm_state m a)) (value_of app m a)) _ _
        (λ _. subst (λ (z : Action). is_live (task_state (acted app (with_alarm m a (rearmed app a (alarm_state m a))) z).state t) ≡ true) (sym act)
        (set_wakes t e b (waits_extended app s w t b waits) (with_alarm m a (rearmed app a (alarm_state m a))) still shared))
        (λ early. absurd (false≢true (sym early ∙ on)))

    frees_by : (e : ℕ) (k : Kind) → SetsBy app s t e k → share (awaited (the_block app b.0).kind) (own_events app s t e) ≡ true → Frees (effect_at app s choice (here s) (the_block app (here s).block.0) k)
    frees_by e (kind.Call (call.SetEvent v n)) h shared =
        subst (λ (z : TaskNo). is_live (task_state (set_event app (after app s) z.0 n.0).state t) ≡ true) (sym h.0)
        (subst (λ (z : Mask). is_live (task_state (set_event app (after app s) t z.0).state t) ≡ true) (sym h.1)
        (set_wakes t e b (waits_extended app s w t b waits) (after app s) still_waits shared))
    frees_by e (kind.Expire a) h shared = expired_wakes (after app s) a.0 e (due_after app s a.0 (place_at (the_block app (here s).block.0).next 0) s.processor ∙ h.1) h.0 still_waits shared
    frees_by e _ h shared = absurd h

    pub frees : (e : ℕ) → SetsEvents app s t e → share (awaited (the_block app b.0).kind) (own_events app s t e) ≡ true → is_live (task_state (instruction app s choice).state t) ≡ true
    unfolding instruction
    frees e h shared =
        let x = effect app s choice in
        settled_live t x.state (outcome_of app x) (subst Frees (sym (effect_is app s choice active)) (frees_by e (kind_at app s) h shared))
