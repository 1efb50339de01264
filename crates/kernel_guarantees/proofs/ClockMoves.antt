-- What one instruction makes of the alarms and counters: it leaves them, counts one counter, or changes one alarm.
use Rattle.std.proofs.Common.{◌≡◌, ℕ, ◌+◌, ◌%◌, cond, Bool, true, false, not, ◌||◌, nat_lt, nat_eq, List, refl, sym, subst, ap, ◌∙◌, inl, inr, Some, None}
use Rattle.std.proofs.lemmas.Bool.{cases_Bool, false≢true}
use Rattle.std.specs.{Prelude.{slice_index_or, slice_set}, declared.option.Option.{Option}}
use Rattle.osek_values.specs.declared.{event.Event.{Event}, numbers.{AlarmNo.{AlarmNo}, SourceNo.{SourceNo}, TaskNo.{TaskNo}}}
use Rattle.oil_system.specs.declared.objects.Action.{Action}
use Rattle.oil_system.specs.declared.objects.Action.TheVariants as action
use Rattle.osek_standard.specs.declared.{app.App.{App}, block.Kind.{Kind}, task_state.Place.{Place}}
use Rattle.osek_standard.specs.declared.state.{State.{State}, AlarmState.{AlarmState, TheVariants.{Idle, Armed}}, Processor.{Processor}, Caller.{Caller, TheVariants.{Nobody, Routine, Task}}}
use Rattle.osek_standard.specs.{Apps.{is_counter, is_cycle, is_extended, max_of, the_alarm, the_block, the_counter}, TaskStates.{is_suspended}, States.{alarm_state, caller, here, task_of, task_state, with_alarm, with_processor, with_source}}
use Rattle.osek_standard.specs.{Internal.{kept_by, put_inside}, Line.{first_in_line, out_of_line}}
use Rattle.osek_standard.specs.Services.{Answer, acted, activate_task, cancel_alarm, count_up, counted_by, due, expire, is_due_at, is_full, is_idle, rearmed, set_abs_alarm, set_event, set_rel_alarm, value_of, waits_for}
use Rattle.osek_standard.specs.{Effects.{Effect, effect, effect_at, halted_by, moved_by, moved_to, place_at, returned_to}, Kernel.{step}, Well.{IsActive, Well}}
use Rattle.osek_standard.specs.Dispatch.{Keep, Outcome, To, instruction, outcome_of, processor_for, settled}
use Rattle.osek_standard.specs.declared.block.Kind.TheVariants as kind
use Rattle.osek_standard.specs.declared.state.Processor.TheVariants as processor
use Rattle.osek_standard.specs.declared.state.Source.TheVariants as source
use Rattle.kernel_guarantees.specs.{Alarms.{AlarmBecomes, IsCount}, Scheduling.{kind_at}}
use Rattle.kernel_guarantees.proofs.{Deeds.{AreDeeds}, Effecting.{effect_does}, LockedSteps.{effect_is}, Reaching.{step_has}, Serving.{abs_parts, either_by, idle_of, rel_parts}}
use Rattle.kernel_guarantees.proofs.CallNames as call

-- the kinds that count or change an alarm
abbrev is_clock : Kind → Bool
is_clock (kind.Call (call.Arm service a i c)) = true
is_clock (kind.Call (call.Alarm call.CancelAlarm a)) = true
is_clock (kind.Expire a) = true
is_clock kind.CountUp = true
is_clock _ = false

-- the same alarms and counters
abbrev pub SameClock : State → State → Type 0
SameClock s r = (r.alarms ≡ s.alarms) × (r.counters ≡ s.counters)

pub data ClockMove (app : App) (s r : State) : Type 0 where
  Rests : SameClock s r → ClockMove app s r
  Counts : (c : ℕ) → IsCount app s c (kind_at app s) → (r.alarms ≡ s.alarms) → (r.counters ≡ (count_up app s c).counters) → ClockMove app s r
  Sets : (a : ℕ) (x : AlarmState) → AlarmBecomes app s a (kind_at app s) x → (r.alarms ≡ slice_set s.alarms a x) → (r.counters ≡ s.counters) → ClockMove app s r

module _ (app : App) (s : State) where
  same_moved : (to : Place) (p : Processor) → SameClock s (moved_by s p to)
  same_moved to processor.Halted = (refl, refl)
  same_moved to processor.Idle = (refl, refl)
  same_moved to (processor.Running t) = (refl, refl)
  same_moved to (processor.Interrupted k over) = (refl, refl)

  module _ (quiet : is_clock (kind_at app s) ≡ false) where
    none_becomes : (m : State) (a : ℕ) (x : AlarmState) (k : Kind) → is_clock k ≡ false → AlarmBecomes app m a k x → ⊥
    none_becomes m a x (kind.Call (call.Arm service b i c)) e h = false≢true (sym e)
    none_becomes m a x (kind.Call (call.Alarm call.CancelAlarm b)) e h = false≢true (sym e)
    none_becomes m a x (kind.Expire b) e h = false≢true (sym e)
    none_becomes m a x _ e h = h

    no_count : (m : State) (c : ℕ) → IsCount app m c (kind_at app s) → ⊥
    no_count m c h = false≢true (sym quiet ∙ ap is_clock h.counts)

    abbrev Same : State → Type 0
    Same m = SameClock s m

    returning : (m : State) (k : SourceNo) (over : Option TaskNo) (o : Option SourceNo) → Same m → Same (returned_to app (with_source m k.0 source.Out) over o).state
    returning m k None None q = q
    returning m k (Some t) None q = q
    returning m k over (Some j) q = q

    halting : (m : State) (p : Processor) → Same m → Same (halted_by m p)
    halting m processor.Halted q = q
    halting m processor.Idle q = q
    halting m (processor.Running t) q = q
    halting m (processor.Interrupted k None) q = q
    halting m (processor.Interrupted k (Some t)) q = q

    quiet_deeds : AreDeeds app (kind_at app s) Same (λ r a. Same r)
    quiet_deeds = record {
      counts = λ m c q up. absurd (no_count m c up);
      arms = λ m a x q sets. absurd (none_becomes m a x (kind_at app s) quiet sets);
      rests = λ m v q. q;
      takes = λ m c r v q e free low. q;
      gives = λ m c n v q e goes. q;
      routine_takes = λ m l r v q e free low. q;
      routine_gives = λ m l n v q e. q;
      activates = λ m t v q known room goes. q;
      wakes = λ m t e v q known ext waits goes. q;
      sets = λ m t e v q known waits sent. q;
      clears = λ m c e v q r goes. q;
      ends = λ m c v q e goes. q;
      chains = λ m c t v q e known room goes chained. q;
      waits = λ m c v q e ext none goes. q;
      lets_out = λ m c v q e none goes. q;
      returns = λ m l over o v q e f goes. returning m l over o q;
      halts = λ m v q goes. halting m m.processor q;
    }

    quiet_same : (choice : Bool) → Well app s → IsActive s.processor → Same (effect app s choice).state
    quiet_same choice w active = effect_does app Same (λ r a. Same r) s quiet_deeds w active (refl, refl) (λ to. same_moved to s.processor) choice

  -- an alarm's action leaves them
  pub acted_same : (m : State) (z : Action) → SameClock m (acted app m z).state
  unfolding activate_task set_event
  acted_same m (action.ActivateTask t) = either_by (λ (a : Answer). SameClock m a.state) (is_full app m t.0) _ _ (λ _. (refl, refl)) (λ _. (refl, refl))
  acted_same m (action.SetEvent t e) = either_by (λ (a : Answer). SameClock m a.state) (not (is_extended app t.0)) _ _ (λ _. (refl, refl))
      (λ _. either_by (λ (a : Answer). SameClock m a.state) (is_suspended (task_state m t.0)) _ _ (λ _. (refl, refl))
      (λ _. either_by (λ (a : Answer). SameClock m a.state) (waits_for app m t.0 e.0) _ _ (λ _. (refl, refl)) (λ _. (refl, refl))))

  pub settled_same : (r : State) (o : Outcome) → SameClock r (settled app r o)
  settled_same r Keep = kept_same r.processor where
    kept_same : (p : Processor) → SameClock r (kept_by app r p)
    kept_same processor.Halted = (refl, refl)
    kept_same processor.Idle = (refl, refl)
    kept_same (processor.Running t) = (refl, refl)
    kept_same (processor.Interrupted k over) = (refl, refl)
  settled_same r (To o) = given (task_of r.processor) o where
    given : (c o : Option TaskNo) → SameClock r (with_processor (put_inside app (out_of_line (first_in_line r c) o) o) (processor_for o))
    given None None = (refl, refl)
    given (Some d) None = (refl, refl)
    given None (Some t) = (refl, refl)
    given (Some d) (Some t) = (refl, refl)

  -- from a state m with the same alarms and counters, where the caller moved
  module _ (m : State) (q : SameClock s m) where
    alarm_as : (a : ℕ) → alarm_state m a ≡ alarm_state s a
    alarm_as a = ap (λ (xs : List AlarmState). slice_index_or xs a Idle) q.0

    value_as : (a : ℕ) → value_of app m a ≡ value_of app s a
    value_as a = ap (λ (xs : List ℕ). slice_index_or xs (the_alarm app a).counter.0 0) q.1

    -- alarm a is set to x
    puts : (a : ℕ) (x : AlarmState) (r : State) → SameClock (with_alarm m a x) r → AlarmBecomes app s a (kind_at app s) x → ClockMove app s r
    puts a x r h becomes = Sets a x becomes (h.0 ∙ ap (λ (xs : List AlarmState). slice_set xs a x) q.0) (h.1 ∙ q.1)

    becomes : (a : ℕ) (x : AlarmState) (k : Kind) → kind_at app s ≡ k → AlarmBecomes app s a k x → AlarmBecomes app s a (kind_at app s) x
    becomes a x k is h = subst (λ (n : Kind). AlarmBecomes app s a n x) (sym is) h

    armed_relative : (a : AlarmNo) (i c : ℕ) → kind_at app s ≡ kind.Call (call.Arm call.SetRelAlarm a i c) → ClockMove app s (set_rel_alarm app m a.0 i c).state
    unfolding set_rel_alarm
    armed_relative a i c is = either_by (λ (z : Answer). ClockMove app s z.state) (not (is_idle (alarm_state m a.0))) _ _ (λ _. Rests q)
        (λ idle. either_by (λ (z : Answer). ClockMove app s z.state) (nat_eq i 0 || nat_lt (max_of app a.0) i || not (is_cycle app a.0 c)) _ _ (λ _. Rests q)
        (λ right. let p = rel_parts (max_of app a.0) i (is_cycle app a.0 c) right in
        puts a.0 _ _ (refl, refl) (becomes a.0 _ _ is (
          refl,
          sym (alarm_as a.0) ∙ idle_of (alarm_state m a.0) idle,
          p.0,
          p.1,
          p.2,
          ap (λ (v : ℕ). Armed ((v + i) % (max_of app a.0 + 1)) c) (value_as a.0),
        ))))

    armed_absolute : (a : AlarmNo) (v c : ℕ) → kind_at app s ≡ kind.Call (call.Arm call.SetAbsAlarm a v c) → ClockMove app s (set_abs_alarm app m a.0 v c).state
    unfolding set_abs_alarm
    armed_absolute a v c is = either_by (λ (z : Answer). ClockMove app s z.state) (not (is_idle (alarm_state m a.0))) _ _ (λ _. Rests q)
        (λ idle. either_by (λ (z : Answer). ClockMove app s z.state) (nat_lt (max_of app a.0) v || not (is_cycle app a.0 c)) _ _ (λ _. Rests q)
        (λ right. let p = abs_parts (max_of app a.0) v (is_cycle app a.0 c) right in
        puts a.0 _ _ (refl, refl) (becomes a.0 _ _ is (refl, sym (alarm_as a.0) ∙ idle_of (alarm_state m a.0) idle, p.0, p.1, refl))))

    cancelled : (a : AlarmNo) → kind_at app s ≡ kind.Call (call.Alarm call.CancelAlarm a) → ClockMove app s (cancel_alarm app m a.0).state
    unfolding cancel_alarm
    cancelled a is = either_by (λ (z : Answer). ClockMove app s z.state) (is_idle (alarm_state m a.0)) _ _ (λ _. Rests q) (λ _. puts a.0 _ _ (refl, refl) (becomes a.0 _ _ is (refl, refl)))

    expired : (a : AlarmNo) → kind_at app s ≡ kind.Expire a → ClockMove app s (expire app m a.0).state
    unfolding expire
    expired a is =
        let x = rearmed app a.0 (alarm_state m a.0) in
        either_by (λ (z : Answer). ClockMove app s z.state) (is_due_at (due (alarm_state m a.0)) (value_of app m a.0)) _ _
        (λ on. puts a.0 x _ (acted_same (with_alarm m a.0 x) (the_alarm app a.0).action)
        (becomes a.0 x _ is (refl, sym (ap (λ (y : AlarmState). is_due_at (due y) (value_of app s a.0)) (alarm_as a.0)) ∙ sym (ap (is_due_at (due (alarm_state m a.0))) (value_as a.0)) ∙ on, ap (rearmed app a.0) (alarm_as a.0))))
        (λ _. Rests q)

    counted : (c : Caller) → caller s.processor ≡ c → kind_at app s ≡ kind.CountUp → ClockMove app s (counted_by app m c)
    unfolding count_up
    counted Nobody e is = Rests q
    counted (Task t) e is = Rests q
    counted (Routine k) e is = either_by (ClockMove app s) (is_counter app k.0) _ _
        (λ counter. Counts k.0 (record { counts = is; routine = e; counter = counter }) q.0 (ap (λ (xs : List ℕ). slice_set xs k.0 (cond (nat_eq (slice_index_or xs k.0 0) (the_counter app k.0).max) 0 (slice_index_or xs k.0 0 + 1))) q.1))
        (λ _. Rests q)

  abbrev pub after : State
  after = moved_to s (the_block app (here s).block.0).next

  pub same_after : SameClock s after
  same_after = same_moved (place_at (the_block app (here s).block.0).next 0) s.processor

  abbrev MovesClock : Effect → Type 0
  MovesClock e = ClockMove app s e.state

  by_kind : (choice : Bool) → Well app s → IsActive s.processor → (k : Kind) → kind_at app s ≡ k → is_clock k ≡ true → MovesClock (effect_at app s choice (here s) (the_block app (here s).block.0) k)
  by_kind choice w active (kind.Call (call.Arm call.SetRelAlarm a i c)) is e = armed_relative after same_after a i c is
  by_kind choice w active (kind.Call (call.Arm call.SetAbsAlarm a v c)) is e = armed_absolute after same_after a v c is
  by_kind choice w active (kind.Call (call.Alarm call.CancelAlarm a)) is e = cancelled after same_after a is
  by_kind choice w active (kind.Expire a) is e = expired after same_after a is
  by_kind choice w active kind.CountUp is e = counted after same_after (caller s.processor) refl is
  by_kind choice w active _ is e = absurd (false≢true e)

  effect_clock : (choice : Bool) → Well app s → IsActive s.processor → MovesClock (effect app s choice)
  effect_clock choice w active = elim (cases_Bool (is_clock (kind_at app s))) [
    | inl on ↦ subst MovesClock (sym (effect_is app s choice active)) (by_kind choice w active (kind_at app s) refl on)
    | inr quiet ↦ Rests (quiet_same quiet choice w active)
  ]

  carried : (r n : State) → ClockMove app s r → SameClock r n → ClockMove app s n
  carried r n (Rests h) q = Rests (q.0 ∙ h.0, q.1 ∙ h.1)
  carried r n (Counts c is h k) q = Counts c is (q.0 ∙ h) (q.1 ∙ k)
  carried r n (Sets a x is h k) q = Sets a x is (q.0 ∙ h) (q.1 ∙ k)

  instruction_clock : (choice : Bool) → Well app s → IsActive s.processor → ClockMove app s (instruction app s choice).state
  unfolding instruction
  instruction_clock choice w active = let e = effect app s choice in carried e.state _ (effect_clock choice w active) (settled_same e.state (outcome_of app e))

  pub step_clock : (e : Event) → Well app s → ClockMove app s (step app s e).state
  step_clock e w = step_has app s (ClockMove app s) (Rests (refl, refl)) (λ k. Rests (refl, refl)) (λ k a. Rests (refl, refl)) (λ choice active. instruction_clock choice w active) e
