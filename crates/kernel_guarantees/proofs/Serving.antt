-- What holds after each deed holds after each service.
use Rattle.std.proofs.Common.{◌≡◌, ◌≢◌, ℕ, ◌<◌, ◌≤◌, Bool, true, false, cond, length, refl, sym, ◌∙◌, ap, subst, arith, not, ◌||◌, ◌&&◌, nat_lt, nat_eq, Some, None}
use Rattle.std.proofs.lemmas.Bool.{eq-eqb, eqb-false, false≢true, not-false, or_parts, Decides.{nat_tests}}
use Rattle.std.specs.{declared.option.Option.{Option}}
use Rattle.osek_values.specs.declared.{mask.Mask.{Mask}, numbers.{BlockNo.{BlockNo}, ResNo.{ResNo}, TaskNo.{TaskNo}}, status.Ask.{Ask}}
use Rattle.osek_values.specs.Numbers.{alarm_no}
use Rattle.osek_values.specs.declared.status.Ask.TheVariants as ask
use Rattle.oil_system.specs.declared.objects.{Action.{Action}, Schedule.{Schedule, TheVariants.{Non, Full}}}
use Rattle.oil_system.specs.declared.objects.Action.TheVariants as action
use Rattle.osek_standard.specs.declared.{app.App.{App}, block.Kind.{Kind}}
use Rattle.osek_standard.specs.declared.state.{State.{State}, AlarmState.{AlarmState, TheVariants.{Idle, Armed}}, Processor.{Processor}, Caller.{Caller, TheVariants.{Nobody, Task, Routine}}}
use Rattle.osek_standard.specs.{Apps.{awaited, tables, the_alarm, the_block, the_task, is_counter, is_cycle, is_extended, is_routine_end, max_of, may_dispatch, no_alarm}, TaskStates.{held, is_suspended}, States.{alarm_state, caller, here, is_taken, task_state, with_alarm, with_source}}
use Rattle.osek_standard.specs.{Priority.{base_priority, ceiling}, Levels.{interrupt_ceiling, next_routine, own_level}, Well.{Well}, Validity.{IsAction}}
use Rattle.osek_standard.specs.Services.{Answer, acted, activate_task, cancel_alarm, chain_task, clear_event, counted_by, due, expire, get_alarm, get_event, get_resource, get_resource_by}
use Rattle.osek_standard.specs.Services.{get_resource_isr, holds_some, is_due_at, is_full, is_idle, is_on_top, rearmed, release_resource, release_resource_by, release_resource_isr, schedule}
use Rattle.osek_standard.specs.Services.{set_abs_alarm, set_event, set_rel_alarm, share, stack_of_source, terminate_task, time_left, value_of, wait_event, waits_for}
use Rattle.osek_standard.specs.Effects.{asked_by, asked_over, asked_under, end_task, goes_on_unless_left, is_schedule, moved_to, returned_by}
use Rattle.osek_standard.specs.declared.block.Kind.TheVariants as kind
use Rattle.osek_standard.specs.declared.state.Processor.TheVariants as processor
use Rattle.osek_standard.specs.declared.state.Source.TheVariants as source
use Rattle.osek_standard.proofs.{AlarmKeeps.{with_alarm_keeps, cancel_alarm_keeps, counted_by_keeps, rearmed_is_right, set_abs_alarm_keeps, set_rel_alarm_keeps}, Callers.{IsAtProcessor, at_processor}, TaskServiceKeeps.{room_to_chain}}
use Rattle.kernel_guarantees.specs.{Alarms.{AlarmBecomes}, Instructions.{action_activates, action_sets, is_end, is_wait, may_activate, may_clear, may_set}}
use Rattle.kernel_guarantees.proofs.Deeds.{AreDeeds, asked_of}
use Rattle.kernel_guarantees.proofs.CallNames as call

-- what holds of each way, where that way is taken, holds of the one that is taken
pub either_by : {X : Type 0} (P : X → Type 0) (b : Bool) (x y : X) → (b ≡ true → P x) → (b ≡ false → P y) → P (cond b x y)
either_by P true x y f g = f refl
either_by P false x y f g = g refl

asks_full : (x : Schedule) (k : Kind) → is_schedule k ≡ false → asked_under x k ≡ asked_over x
asks_full Full k e = refl
asks_full Non k e = ap (λ (b : Bool). cond b ask.Maybe ask.No) e

pub asks_no : (app : App) (c : Caller) (k : Kind) → asked_by app c k ask.No ≡ ask.No
asks_no app Nobody k = refl
asks_no app (Routine r) k = refl
asks_no app (Task t) k = refl

pub asks_maybe : (app : App) (c : Caller) (k : Kind) → is_schedule k ≡ false → asked_by app c k ask.Maybe ≡ asked_of app c
asks_maybe app Nobody k e = refl
asks_maybe app (Routine r) k e = refl
asks_maybe app (Task t) k e = asks_full (the_task app t.0).schedule k e

pub asks_at_schedule : (x : Schedule) (k : Kind) → is_schedule k ≡ true → asked_under x k ≡ ask.Maybe
asks_at_schedule Full k e = refl
asks_at_schedule Non k e = ap (λ (b : Bool). cond b ask.Maybe ask.No) e

-- a task that calls has the processor
pub running : (m : State) (t : TaskNo) → caller m.processor ≡ Task t → m.processor ≡ processor.Running t
running m t e = subst (IsAtProcessor m) e (at_processor m)

at_most : (n m : ℕ) → nat_lt m n ≡ false → n ≤ m
at_most n m e = grind (arith, nat_tests)

pub both_same : (t e : ℕ) → (nat_eq t t && nat_eq e e) ≡ true
both_same t e = ap (λ (b : Bool). b && nat_eq e e) (eq-eqb t t refl) ∙ eq-eqb e e refl

pub idle_of : (x : AlarmState) → not (is_idle x) ≡ false → x ≡ Idle
idle_of Idle e = refl
idle_of (Armed at cycle) e = absurd (false≢true (sym e))

pub abs_parts : (max v : ℕ) (right : Bool) → (nat_lt max v || not right) ≡ false → (v ≤ max) × (right ≡ true)
abs_parts max v right e = let p = or_parts (nat_lt max v) (not right) e in (at_most v max p.0, not-false right p.1)

pub rel_parts : (max i : ℕ) (right : Bool) → (nat_eq i 0 || nat_lt max i || not right) ≡ false → (0 < i) × (i ≤ max) × (right ≡ true)
rel_parts max i right e =
    let p = or_parts (nat_eq i 0 || nat_lt max i) (not right) e in
    let q = or_parts (nat_eq i 0) (nat_lt max i) p.0 in
    let some : i ≢ 0 = eqb-false i 0 q.0 in
    (omega (arith, some), at_most i max q.1, not-false right p.1)

module _ (app : App) (K : Kind) (Q : State → Type 0) (P : State → Ask → Type 0) (d : AreDeeds app K Q P) where
  -- f is what becomes of the ask of a service
  module _ (m : State) (w : Well app m) (q : Q m) (f : Ask → Ask) (no : f ask.No ≡ ask.No) where
    abbrev Does : Answer → Type 0
    Does a = P a.state (f a.ask)

    pub rested : P m (f ask.No)
    rested = subst (P m) (sym no) (d.rests m w q)

    noted_no : (r : State) → P r ask.No → P r (f ask.No)
    noted_no r h = subst (P r) (sym no) h

    module _ (maybe : f ask.Maybe ≡ asked_of app (caller m.processor)) where
      asked : (r : State) → P r (asked_of app (caller m.processor)) → P r (f ask.Maybe)
      asked r h = subst (P r) (sym maybe) h

      pub activate_does : (t : ℕ) → t < length app.tasks → may_activate app K t ≡ true → Does (activate_task app m t)
      unfolding activate_task
      activate_does t known goes = either_by Does (is_full app m t) _ _ (λ _. rested) (λ e. asked _ (d.activates m t w q known e goes))

      pub set_event_does : (t e : ℕ) → t < length app.tasks → may_set app K t e ≡ true → Does (set_event app m t e)
      unfolding set_event
      set_event_does t e known goes = either_by Does (not (is_extended app t)) _ _ (λ _. rested)
          (λ ext. either_by Does (is_suspended (task_state m t)) _ _ (λ _. rested)
          (λ _. either_by Does (waits_for app m t e) _ _ (λ g. asked _ (d.wakes m t e w q known (not-false (is_extended app t) ext) g goes))
          (λ g. noted_no _ (d.sets m t e w q known g goes))))

      acted_does : (x : Action) → IsAction (tables app) x → ((t : ℕ) → action_activates x t ≡ true → may_activate app K t ≡ true) → ((t e : ℕ) → action_sets x t e ≡ true → may_set app K t e ≡ true) → Does (acted app m x)
      acted_does (action.ActivateTask t) h goes sends = activate_does t.0 h (goes t.0 (eq-eqb t.0 t.0 refl))
      acted_does (action.SetEvent t e) h goes sends = set_event_does t.0 e.0 h.0 (sends t.0 e.0 (both_same t.0 e.0))

    pub get_resource_does : (c : Caller) (r : ResNo) → caller m.processor ≡ c → Does (get_resource_by app m c r)
    unfolding get_resource get_resource_isr
    get_resource_does Nobody r e = rested
    get_resource_does (Routine k) r e = either_by Does (is_taken m r.0 || nat_lt (interrupt_ceiling app r.0) (own_level app k.0)) _ _ (λ _. rested)
        (λ g. let p = or_parts (is_taken m r.0) (nat_lt (interrupt_ceiling app r.0) (own_level app k.0)) g in
        noted_no _ (d.routine_takes m k r w q e p.0 (at_most (own_level app k.0) (interrupt_ceiling app r.0) p.1)))
    get_resource_does (Task c) r e = either_by Does (is_taken m r.0 || nat_lt (ceiling app r.0) (base_priority app c.0)) _ _ (λ _. rested)
        (λ g. let p = or_parts (is_taken m r.0) (nat_lt (ceiling app r.0) (base_priority app c.0)) g in
        noted_no _ (d.takes m c r w q (running m c e) p.0 (at_most (base_priority app c.0) (ceiling app r.0) p.1)))

    pub release_resource_does : (maybe : f ask.Maybe ≡ asked_of app (caller m.processor)) → may_dispatch K ≡ true → (c : Caller) (r : ResNo) → caller m.processor ≡ c → Does (release_resource_by app m c r)
    unfolding release_resource release_resource_isr
    release_resource_does maybe goes Nobody r e = rested
    release_resource_does maybe goes (Routine k) r e = either_by Does (nat_lt (interrupt_ceiling app r.0) (own_level app k.0)) _ _ (λ _. rested)
        (λ _. either_by Does (is_on_top r.0 (stack_of_source app m k.0)) _ _ (λ _. noted_no _ (d.routine_gives m k _ w q e)) (λ _. rested))
    release_resource_does maybe goes (Task c) r e = either_by Does (nat_lt (ceiling app r.0) (base_priority app c.0)) _ _ (λ _. rested)
        (λ _. either_by Does (is_on_top r.0 (held (task_state m c.0))) _ _
        (λ _. subst (P _) (sym (maybe ∙ ap (asked_of app) e)) (d.gives m c _ w q (running m c e) goes)) (λ _. rested))

    pub clear_event_does : (c : Caller) (e : ℕ) → caller m.processor ≡ c → may_clear K e ≡ true → Does (clear_event app m c e)
    unfolding clear_event
    clear_event_does Nobody e same goes = rested
    clear_event_does (Routine k) e same goes = rested
    clear_event_does (Task c) e same goes = either_by Does (not (is_extended app c.0)) _ _ (λ _. rested) (λ _. noted_no _ (d.clears m c e w q (running m c same) goes))

    pub get_event_does : (t : ℕ) → Does (get_event app m t)
    unfolding get_event
    get_event_does t = either_by Does (not (is_extended app t)) _ _ (λ _. rested) (λ _. either_by Does (is_suspended (task_state m t)) _ _ (λ _. rested) (λ _. rested))

    -- a service of alarms leaves the alarm armed or idle
    alarm_set : (r : State) → Q r → Well app r → P r (f ask.No)
    alarm_set r h u = noted_no r (d.rests r u h)

    abbrev DoesWell : Answer → Type 0
    DoesWell a = Well app a.state → Does a

    becomes : (a : ℕ) (x : AlarmState) (k : Kind) → K ≡ k → AlarmBecomes app m a k x → AlarmBecomes app m a K x
    becomes a x k is h = subst (λ (n : Kind). AlarmBecomes app m a n x) (sym is) h

    pub set_rel_alarm_does : (a i c : ℕ) → a < length app.alarms → K ≡ kind.Call (call.Arm call.SetRelAlarm (alarm_no a) i c) → Does (set_rel_alarm app m a i c)
    unfolding set_rel_alarm
    set_rel_alarm_does a i c known is = by (set_rel_alarm_keeps app m a i c w known) where
      by : Well app (set_rel_alarm app m a i c).state → Does (set_rel_alarm app m a i c)
      by = either_by DoesWell (not (is_idle (alarm_state m a))) _ _ (λ _ _. rested)
          (λ idle. either_by DoesWell (nat_eq i 0 || nat_lt (max_of app a) i || not (is_cycle app a c)) _ _ (λ _ _. rested)
          (λ right u. let p = rel_parts (max_of app a) i (is_cycle app a c) right in
          alarm_set _ (d.arms m a _ q (becomes a _ _ is (refl, idle_of (alarm_state m a) idle, p.0, p.1, p.2, refl))) u))

    pub set_abs_alarm_does : (a i c : ℕ) → a < length app.alarms → K ≡ kind.Call (call.Arm call.SetAbsAlarm (alarm_no a) i c) → Does (set_abs_alarm app m a i c)
    unfolding set_abs_alarm
    set_abs_alarm_does a i c known is = by (set_abs_alarm_keeps app m a i c w known) where
      by : Well app (set_abs_alarm app m a i c).state → Does (set_abs_alarm app m a i c)
      by = either_by DoesWell (not (is_idle (alarm_state m a))) _ _ (λ _ _. rested)
          (λ idle. either_by DoesWell (nat_lt (max_of app a) i || not (is_cycle app a c)) _ _ (λ _ _. rested)
          (λ right u. let p = abs_parts (max_of app a) i (is_cycle app a c) right in
          alarm_set _ (d.arms m a _ q (becomes a _ _ is (refl, idle_of (alarm_state m a) idle, p.0, p.1, refl))) u))

    pub cancel_alarm_does : (a : ℕ) → a < length app.alarms → K ≡ kind.Call (call.Alarm call.CancelAlarm (alarm_no a)) → Does (cancel_alarm app m a)
    unfolding cancel_alarm
    cancel_alarm_does a known is = by (cancel_alarm_keeps app m a w known) where
      by : Well app (cancel_alarm app m a).state → Does (cancel_alarm app m a)
      by = either_by DoesWell (is_idle (alarm_state m a)) _ _ (λ _ _. rested) (λ _ u. alarm_set _ (d.arms m a _ q (becomes a _ _ is (refl, refl))) u)

    time_left_does : (a : ℕ) (o : Option ℕ) → Does (time_left app m a o)
    time_left_does a None = rested
    time_left_does a (Some at) = rested

    pub get_alarm_does : (a : ℕ) → Does (get_alarm app m a)
    unfolding get_alarm
    get_alarm_does a = time_left_does a (due (alarm_state m a))

    pub counted_does : (c : Caller) → caller m.processor ≡ c → K ≡ kind.CountUp → P (counted_by app m c) (f ask.No)
    counted_does c at is = by c at (counted_by_keeps app m c w) where
      by : (c : Caller) → caller m.processor ≡ c → Well app (counted_by app m c) → P (counted_by app m c) (f ask.No)
      by Nobody e u = rested
      by (Task t) e u = rested
      by (Routine k) e u = either_by (λ (r : State). Well app r → P r (f ask.No)) (is_counter app k.0) _ _
          (λ counter v. alarm_set _ (d.counts m k.0 q (record { counts = is; routine = e; counter = counter })) v) (λ _ v. rested) u

  module _ (m : State) (w : Well app m) (q : Q m) where
    -- an alarm that expires asks nothing
    pub expire_does : (f : Ask → Ask) → f ask.No ≡ ask.No → (a : ℕ) → a < length app.alarms → asked_of app (caller m.processor) ≡ ask.No
        → K ≡ kind.Expire (alarm_no a) → ((t : ℕ) → action_activates (the_alarm app a).action t ≡ true → may_activate app K t ≡ true) → ((t e : ℕ) → action_sets (the_alarm app a).action t e ≡ true → may_set app K t e ≡ true) → P (expire app m a).state (f (expire app m a).ask)
    unfolding expire
    expire_does f none_stays a known none is goes sends =
        let x = rearmed app a (alarm_state m a) in
        let right = rearmed_is_right app a (alarm_state m a) (w.alarms a known) in
        either_by (λ (b : Answer). P b.state (f b.ask)) (is_due_at (due (alarm_state m a)) (value_of app m a)) _ _
        (λ on. subst (P _) (sym none_stays) (acted_does (with_alarm m a x) (with_alarm_keeps app m a x w known right) (d.arms m a x q (subst (λ (n : Kind). AlarmBecomes app m a n x) (sym is) (refl, on, refl))) (λ _. ask.No) refl (sym none)
        (the_alarm app a).action (app.valid.each_alarm a no_alarm known).action goes sends))
        (λ _. subst (P _) (sym none_stays) (d.rests m w q))

    pub terminate_does : (k : Kind) → is_end K ≡ true → (c : Caller) → caller m.processor ≡ c → P (terminate_task app m c).state (asked_by app c k (terminate_task app m c).ask)
    unfolding terminate_task
    terminate_does k goes Nobody e = d.rests m w q
    terminate_does k goes (Routine r) e = d.rests m w q
    terminate_does k goes (Task c) e = either_by (λ (a : Answer). P a.state (asked_by app (Task c) k a.ask)) (holds_some m c.0) _ _ (λ _. d.rests m w q) (λ _. d.ends m c w q (running m c e) goes)

    pub chain_does : (k : Kind) → is_end K ≡ true → (c : Caller) (t : ℕ) → may_activate app K t ≡ true → caller m.processor ≡ c → t < length app.tasks → P (chain_task app m c t).state (asked_by app c k (chain_task app m c t).ask)
    unfolding chain_task
    chain_does k goes Nobody t to e known = d.rests m w q
    chain_does k goes (Routine r) t to e known = d.rests m w q
    chain_does k goes (Task c) t to e known =
        let D : Answer → Type 0 = λ a. P a.state (asked_by app (Task c) k a.ask) in
        either_by D (holds_some m c.0) _ _ (λ _. d.rests m w q) (λ _. either_by D (not (nat_eq t c.0) && is_full app m t) _ _ (λ _. d.rests m w q)
        (λ g. d.chains m c t w q (running m c e) known (room_to_chain app m c t w (running m c e) g) goes to))

    pub schedule_does : (k : Kind) → is_schedule k ≡ true → is_schedule K ≡ true → (c : Caller) → caller m.processor ≡ c → P (schedule m c).state (asked_by app c k (schedule m c).ask)
    unfolding schedule
    schedule_does k is goes Nobody e = d.rests m w q
    schedule_does k is goes (Routine r) e = d.rests m w q
    schedule_does k is goes (Task c) e = either_by (λ (a : Answer). P a.state (asked_by app (Task c) k a.ask)) (holds_some m c.0) _ _ (λ _. d.rests m w q)
        (λ none. subst (P _) (sym (asks_at_schedule (the_task app c.0).schedule k is)) (d.lets_out m c w q (running m c e) none goes))

    pub end_does : is_end K ≡ true → (c : Caller) → caller m.processor ≡ c → P (end_task app m c).state (end_task app m c).ask
    end_does goes Nobody e = d.rests m w q
    end_does goes (Routine k) e = d.rests m w q
    end_does goes (Task c) e = d.ends m c w q (running m c e) goes

    pub returned_does : is_routine_end K ≡ true → (p : Processor) → m.processor ≡ p → P (returned_by app m p).state (returned_by app m p).ask
    returned_does goes processor.Halted e = d.rests m w q
    returned_does goes processor.Idle e = d.rests m w q
    returned_does goes (processor.Running t) e = d.rests m w q
    returned_does goes (processor.Interrupted k over) e = d.returns m k over (next_routine app (with_source m k.0 source.Out)) w q e refl goes

    -- the caller of WaitEvent waits, or goes on
    pub wait_does : is_wait K ≡ true → (next : BlockNo) (c : Caller) (e : Mask) → caller m.processor ≡ c → (the_block app (here m).block.0).kind ≡ kind.Call (call.Mask call.WaitEvent e) → P (moved_to m next) ask.No
        → P (goes_on_unless_left next (wait_event app m c e.0)).state (goes_on_unless_left next (wait_event app m c e.0)).ask
    unfolding wait_event
    wait_does goes next Nobody e same is on = on
    wait_does goes next (Routine k) e same is on = on
    wait_does goes next (Task c) e same is on =
        let D : Answer → Type 0 = λ a. P (goes_on_unless_left next a).state (goes_on_unless_left next a).ask in
        either_by D (not (is_extended app c.0)) _ _ (λ _. on) (λ ext. either_by D (holds_some m c.0) _ _ (λ _. on)
        (λ _. either_by D (share (task_state m c.0).events.0 e.0) _ _ (λ _. on)
        (λ none. d.waits m c w q (running m c same) (not-false (is_extended app c.0) ext)
        (ap (λ (k : Kind). share (task_state m c.0).events.0 (awaited k)) is ∙ none) goes)))
