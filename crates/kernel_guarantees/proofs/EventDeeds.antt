-- What SetEvent, ClearEvent and WaitEvent do where they are accepted, and what an activation makes of the events.
use Rattle.std.proofs.Common.{◌≡◌, ℕ, ◌<◌, Bool, true, false, not, nat_eq, length, refl, sym, subst, ap, ◌∙◌, inl, inr, arith, Some, None, get_or-set_same}
use Rattle.std.proofs.lemmas.{Bool.{cases_lt, false≢true}, List.{get_or_past}}
use Rattle.std.proofs.lemmas.Nat.Bits.{bit_at-lt, bit_at-zero, bit_at_and, bit_at_xor, same_from_bits}
use Rattle.std.specs.{Prelude.{bit_and, bit_or, bit_xor, is_some}, declared.option.Option.{Option}}
use Rattle.osek_values.specs.declared.{event.Event.{Event}, mask.Mask.{Mask}, numbers.{BlockNo.{BlockNo}, TaskNo.{TaskNo}}}
use Rattle.osek_values.specs.Numbers.{mask, task_no}
use Rattle.osek_values.specs.declared.status.Status.TheVariants as status
use Rattle.oil_system.specs.declared.objects.Action.{Action}
use Rattle.oil_system.specs.declared.objects.Action.TheVariants as action
use Rattle.osek_standard.specs.declared.{app.App.{App}, block.Kind.{Kind}, state.{State.{State}, Processor.{Processor}, Caller.{Caller, TheVariants.{Task}}}}
use Rattle.osek_standard.specs.declared.task_state.{TaskState.{TaskState}, Activity.{Activity, TheVariants.{Suspended, Live, Waiting}}}
use Rattle.osek_standard.specs.{Apps.{is_extended, the_alarm, the_block}, TaskStates.{is_live, is_live_activity, is_suspended, is_suspended_activity, suspended}}
use Rattle.osek_standard.specs.States.{alarm_state, caller, here, task_of, task_state, with_alarm, with_processor}
use Rattle.osek_standard.specs.{Internal.{inside_as, internal_of, kept_by, put_inside, with_inside}, Line.{first_in_line, out_of_line}}
use Rattle.osek_standard.specs.Services.{Answer, acted, activated_by, clear_event, due, events_set, expire, holds_some, is_due_at, own_events, rearmed, released_from, set_event, share, value_of, wait_event, waits_for}
use Rattle.osek_standard.specs.{Effects.{Effect, effect, effect_at, goes_on_unless_left, place_at}, Kernel.{step}, Well.{IsActive, Well}}
use Rattle.osek_standard.specs.Dispatch.{Outcome, Keep, To, instruction, outcome_of, processor_for, settled}
use Rattle.osek_standard.specs.declared.block.Kind.TheVariants as kind
use Rattle.osek_standard.specs.declared.state.Processor.TheVariants as processor
use Rattle.osek_standard.proofs.Callers.{task_level_of}
use Rattle.kernel_guarantees.specs.{Events.{SetsBy, SetsEvents}, Scheduling.{kind_at}}
use Rattle.kernel_guarantees.proofs.{EventReleases.{after, due_after}, EventSends.{KeepsEvents, inside_live, moving}, Onward.{onward_well}, LockedSteps.{effect_is, effect_of}, Lookups.{put_task}, Others.{IsByOthers, step_by_others}, Serving.{either_by}}
use Rattle.kernel_guarantees.proofs.CallNames as call

-- what is cleared isn't there
none_left : (a m : ℕ) → share (bit_xor a (bit_and a m)) m ≡ false
none_left a m =
    let none : bit_and (bit_xor a (bit_and a m)) m ≡ 0
    = same_from_bits _ _ (λ i. omega (arith, bit_at_and (bit_xor a (bit_and a m)) m i, bit_at_xor a (bit_and a m) i, bit_at_and a m i, bit_at-lt a i, bit_at-lt m i, bit_at-zero i)) in
    ap (λ (k : ℕ). not (nat_eq k 0)) none

-- who isn't suspended is a task of the application
known_task : (m : State) (t : ℕ) → is_suspended (task_state m t) ≡ false → t < length m.tasks
known_task m t e = elim (cases_lt t (length m.tasks)) [
  | inl h ↦ h
  | inr past ↦ absurd (false≢true (sym e ∙ ap (λ (x : TaskState). is_suspended x) (get_or_past m.tasks t suspended past)))
]

module _ (app : App) where
  -- an outcome leaves events, and who waits
  inside_keeps : (m : State) (c : ℕ) (b : Bool) (t : ℕ) → KeepsEvents (task_state m t) (task_state (with_inside m c b) t)
  inside_keeps m c b t = put_task m c (record (task_state m c) { activity = inside_as b (task_state m c).activity }) (λ v z. KeepsEvents (task_state m v) z)
      (record { events = refl; waiting = λ d e. ap (inside_as b) e }) (λ v. record { events = refl; waiting = λ d e. e }) t

  kept_keeps : (m : State) (p : Processor) (t : ℕ) → KeepsEvents (task_state m t) (task_state (kept_by app m p) t)
  kept_keeps m processor.Halted t = record { events = refl; waiting = λ d e. e }
  kept_keeps m processor.Idle t = record { events = refl; waiting = λ d e. e }
  kept_keeps m (processor.Running c) t = inside_keeps m c.0 (is_some (internal_of app c.0)) t
  kept_keeps m (processor.Interrupted k over) t = record { events = refl; waiting = λ d e. e }

  dispatched_keeps : (m : State) (c o : Option TaskNo) (t : ℕ) → KeepsEvents (task_state m t) (task_state (with_processor (put_inside app (out_of_line (first_in_line m c) o) o) (processor_for o)) t)
  dispatched_keeps m None None t = record { events = refl; waiting = λ d e. e }
  dispatched_keeps m (Some u) None t = record { events = refl; waiting = λ d e. e }
  dispatched_keeps m None (Some x) t = inside_keeps m x.0 (is_some (internal_of app x.0)) t
  dispatched_keeps m (Some u) (Some x) t = inside_keeps m x.0 (is_some (internal_of app x.0)) t

  settled_keeps : (m : State) (o : Outcome) (t : ℕ) → KeepsEvents (task_state m t) (task_state (settled app m o) t)
  settled_keeps m Keep t = kept_keeps m m.processor t
  settled_keeps m (To o) t = dispatched_keeps m (task_of m.processor) o t

  -- SetEvent, of a call or of an alarm's action
  module _ (m : State) (t e : ℕ) where
    abbrev Sets : Answer → Type 0
    Sets a = a.status ≡ Some status.Ok → (task_state a.state t).events ≡ mask (events_set app m t e)

    set_sets : Sets (set_event app m t e)
    unfolding set_event
    set_sets =
        let y : TaskState = record { activity = released_from app (task_state m t).activity; events = mask (events_set app m t e) } in
        let z : TaskState = record (task_state m t) { events = mask (events_set app m t e) } in
        either_by Sets (not (is_extended app t)) _ _ (λ _ f. absurd (cc (f))) (λ _. either_by Sets (is_suspended (task_state m t)) _ _ (λ _ f. absurd (cc (f)))
        (λ on. either_by Sets (waits_for app m t e) _ _ (λ _ _. ap (λ (v : TaskState). v.events) (get_or-set_same m.tasks t y suspended (known_task m t on)))
        (λ _ _. ap (λ (v : TaskState). v.events) (get_or-set_same m.tasks t z suspended (known_task m t on)))))

  expired_sets : (m : State) (a t e : ℕ) → is_due_at (due (alarm_state m a)) (value_of app m a) ≡ true → (the_alarm app a).action ≡ action.SetEvent (task_no t) (mask e) → Sets m t e (expire app m a)
  unfolding expire
  expired_sets m a t e on act = either_by (Sets m t e) (is_due_at (due (alarm_state m a)) (value_of app m a)) _ _
      (λ _. subst (λ (z : Action). Sets m t e (acted app (with_alarm m a (rearmed app a (alarm_state m a))) z)) (sym act) (set_sets (with_alarm m a (rearmed app a (alarm_state m a))) t e))
      (λ early. absurd (false≢true (sym early ∙ on)))

  module _ (s : State) (choice : Bool) (active : IsActive s.processor) (t e : ℕ) where
    abbrev Has : Effect → Type 0
    Has x = x.notes.status ≡ Some status.Ok → (task_state x.state t).events ≡ mask (events_set app (after app s) t e)

    sets_by : (k : Kind) → SetsBy app s t e k → Has (effect_at app s choice (here s) (the_block app (here s).block.0) k)
    sets_by (kind.Call (call.SetEvent v n)) h =
        subst (λ (z : TaskNo). Sets (after app s) t e (set_event app (after app s) z.0 n.0)) (sym h.0)
        (subst (λ (z : Mask). Sets (after app s) t e (set_event app (after app s) t z.0)) (sym h.1) (set_sets (after app s) t e))
    sets_by (kind.Expire a) h = expired_sets (after app s) a.0 t e (due_after app s a.0 (place_at (the_block app (here s).block.0).next 0) s.processor ∙ h.1) h.0
    sets_by _ h = absurd h

    pub event_is_set : SetsEvents app s t e → (instruction app s choice).notes.status ≡ Some status.Ok
        → (task_state (instruction app s choice).state t).events.0 ≡ bit_or (task_state s t).events.0 (own_events app s t e)
    unfolding instruction
    event_is_set h ok =
        let x = effect app s choice in
        let sets = subst Has (sym (effect_is app s choice active)) (sets_by (kind_at app s) h) ok in
        ap (λ (z : Mask). z.0) ((settled_keeps x.state (outcome_of app x) t).events ∙ sets)
        ∙ ap (λ (z : Mask). bit_or z.0 (own_events app s t e)) (moving app s t (place_at (the_block app (here s).block.0).next 0) s.processor).events

  -- ClearEvent and WaitEvent, of the task that runs
  module _ (s : State) (w : Well app s) (choice : Bool) (c : TaskNo) (runs : s.processor ≡ processor.Running c) (e : Mask) where
    active : IsActive s.processor
    active = subst IsActive (sym runs) tt

    calls : Task c ≡ caller s.processor
    calls = sym (ap caller runs)

    known : c.0 < length s.tasks
    known = let h = (task_level_of app s c w runs).running.0 in omega (arith, w.tasks_len, h)

    abbrev Clears : Answer → Type 0
    Clears a = a.status ≡ Some status.Ok → share (task_state a.state c.0).events.0 e.0 ≡ false

    clears : (m : State) → length m.tasks ≡ length s.tasks → Clears (clear_event app m (Task c) e.0)
    unfolding clear_event
    clears m same =
        let y : TaskState = record (task_state m c.0) { events = mask (bit_xor (task_state m c.0).events.0 (bit_and (task_state m c.0).events.0 e.0)) } in
        let within : c.0 < length m.tasks = omega (arith, known, same) in
        either_by Clears (not (is_extended app c.0)) _ _ (λ _ f. absurd (cc (f)))
        (λ _ _. ap (λ (v : TaskState). share v.events.0 e.0) (get_or-set_same m.tasks c.0 y suspended within) ∙ none_left (task_state m c.0).events.0 e.0)

    abbrev Cleared : Effect → Type 0
    Cleared x = x.notes.status ≡ Some status.Ok → share (task_state x.state c.0).events.0 e.0 ≡ false

    onward_len : length (after app s).tasks ≡ length s.tasks
    onward_len = (onward_well app s w active).tasks_len ∙ sym w.tasks_len

    pub event_is_cleared : kind_at app s ≡ kind.Call (call.Mask call.ClearEvent e) → (instruction app s choice).notes.status ≡ Some status.Ok → share (task_state (instruction app s choice).state c.0).events.0 e.0 ≡ false
    unfolding instruction
    event_is_cleared is ok =
        let x = effect app s choice in
        let cleared = subst Cleared (sym (effect_of app s choice active (kind.Call (call.Mask call.ClearEvent e)) is)) (subst (λ (d : Caller). Clears (clear_event app (after app s) d e.0)) calls (clears (after app s) onward_len)) ok in
        ap (λ (z : Mask). share z.0 e.0) (settled_keeps x.state (outcome_of app x) c.0).events ∙ cleared

    abbrev next : BlockNo
    next = (the_block app (here s).block.0).next

    abbrev Waits : Answer → Type 0
    Waits a = (goes_on_unless_left next a).status ≡ Some status.Ok → (task_state (goes_on_unless_left next a).state c.0).activity ≡ Waiting (here s).block

    waits : share (task_state s c.0).events.0 e.0 ≡ false → Waits (wait_event app s (Task c) e.0)
    unfolding wait_event
    waits none =
        let y : TaskState = record (task_state s c.0) { activity = Waiting (here s).block } in
        either_by Waits (not (is_extended app c.0)) _ _ (λ _ f. absurd (cc (f))) (λ _. either_by Waits (holds_some s c.0) _ _ (λ _ f. absurd (cc (f)))
        (λ _. either_by Waits (share (task_state s c.0).events.0 e.0) _ _ (λ some. absurd (false≢true (sym none ∙ some)))
        (λ _ _. ap (λ (v : TaskState). v.activity) (get_or-set_same s.tasks c.0 y suspended known))))

    abbrev Waited : Effect → Type 0
    Waited x = x.notes.status ≡ Some status.Ok → (task_state x.state c.0).activity ≡ Waiting (here s).block

    pub waits_for_events : kind_at app s ≡ kind.Call (call.Mask call.WaitEvent e) → share (task_state s c.0).events.0 e.0 ≡ false → (instruction app s choice).notes.status ≡ Some status.Ok
        → (task_state (instruction app s choice).state c.0).activity ≡ Waiting (here s).block
    unfolding instruction
    waits_for_events is none ok =
        let x = effect app s choice in
        let waited = subst Waited (sym (effect_of app s choice active (kind.Call (call.Mask call.WaitEvent e)) is)) (subst (λ (d : Caller). Waits (wait_event app s d e.0)) calls (waits none)) ok in
        (settled_keeps x.state (outcome_of app x) c.0).waiting (here s).block waited

-- a task that is activated has no event
abbrev IsFresh : ℕ → TaskState → TaskState → Type 0
IsFresh t x y = is_suspended x ≡ true → is_live y ≡ true → y.events.0 ≡ 0

not_both : (a : Activity) → is_suspended_activity a ≡ true → is_live_activity a ≡ true → ⊥
not_both Suspended e f = false≢true f
not_both (Live x) e f = false≢true e
not_both (Waiting b) e f = false≢true e

activated_fresh : (app : App) (t : ℕ) (x : TaskState) (a : Activity) → x.activity ≡ a → IsFresh t x (activated_by app t x a)
activated_fresh app t x Suspended e off live = refl
activated_fresh app t x (Live y) e off live = absurd (false≢true (sym (ap is_suspended_activity e) ∙ off))
activated_fresh app t x (Waiting b) e off live = absurd (not_both x.activity off live)

released_fresh : (app : App) (a : Activity) → is_suspended_activity a ≡ true → is_live_activity (released_from app a) ≡ true → ⊥
released_fresh app Suspended e f = false≢true f
released_fresh app (Live x) e f = false≢true e
released_fresh app (Waiting b) e f = false≢true e

fresh_by_others : (app : App) → IsByOthers app IsFresh
fresh_by_others app = record {
  stays = λ t x off live. absurd (not_both x.activity off live);
  activates = λ t x. activated_fresh app t x x.activity refl;
  wakes = λ t m x waits off live. absurd (released_fresh app x.activity off live);
  sets = λ t m x off live. absurd (not_both x.activity off live);
  insides = λ t b x y h off live. h off (inside_live b y.activity live);
}

-- who runs isn't suspended
pub activation_clears : (app : App) (s : State) (e : Event) (t : ℕ) → Well app s → is_suspended (task_state s t) ≡ true → is_live (task_state (step app s e).state t) ≡ true → (task_state (step app s e).state t).events.0 ≡ 0
activation_clears app s e t w off = step_by_others app IsFresh (fresh_by_others app) s (task_no t) beside e w off where
  beside : s.processor ≡ processor.Running (task_no t) → ⊥
  beside runs = not_both (task_state s t).activity off (task_level_of app s (task_no t) w runs).running.1
