-- The alarm services, an alarm that expires and a counter that goes on keep a state well-formed (ISO 17356-3, alarms).
use Rattle.std.proofs.Common.{◌≡◌, ℕ, ◌+◌, ◌%◌, ◌<◌, ◌≤◌, false, length, refl, sym, ◌∙◌, subst, inl, inr, arith, Some, None, not, ◌||◌, nat_lt, nat_eq, slice_set, slice_index_or}
use Rattle.std.proofs.Common.{get_or-set_same, get_or-set_other}
use Rattle.std.proofs.{lemmas.Bool.{cases_Bool, cases_eq, or_parts, not-false, Decides.{nat_tests}}, Math.ListN.{length-set}}
use Rattle.std.specs.{Prelude.{if◌then◌else◌}, declared.option.Option.{Option}}
use Rattle.oil_system.specs.declared.objects.Action.{Action}
use Rattle.oil_system.specs.declared.objects.Action.TheVariants as action
use Rattle.osek_standard.specs.declared.app.App.{App}
use Rattle.osek_standard.specs.declared.state.{State.{State}, AlarmState.{AlarmState, TheVariants.{Idle, Armed}}, Caller.{Caller, TheVariants.{Nobody, Task, Routine}}}
use Rattle.osek_standard.specs.{Validity.{IsAction}, Apps.{tables, the_alarm, the_counter, max_of, is_cycle, is_counter, no_alarm}, States.{with_alarm, alarm_state, counter_value}}
use Rattle.osek_standard.specs.Services.{set_rel_alarm, set_abs_alarm, cancel_alarm, get_alarm, time_left, count_up, counted_by, expire, acted, rearmed, value_of, due, is_due_at}
use Rattle.osek_standard.specs.Services.{is_idle}
use Rattle.osek_standard.specs.Well.{Well, IsAlarmState}
use Rattle.osek_standard.proofs.{Keeps.{processor_keeps}, ActivationKeeps.{activate_keeps}, EventKeeps.{set_event_keeps}}

-- a remainder is at most the greatest value
below_round : (n m : ℕ) → n % (m + 1) ≤ m
below_round n m = omega arith

counted : (v m : ℕ) → v ≤ m → (if nat_eq v m then 0 else v + 1) ≤ m
counted v m h = elim (cases_Bool (nat_eq v m)) [ inl e ↦ (rw e (omega arith)) | inr e ↦ (rw e (grind (arith, nat_tests))) ]

pub rearmed_is_right : (app : App) (a : ℕ) (x : AlarmState) → IsAlarmState app a x → IsAlarmState app a (rearmed app a x)
rearmed_is_right app a Idle h = tt
rearmed_is_right app a (Armed at cycle) h = elim (cases_Bool (nat_eq cycle 0)) [
  | inl e ↦ (rw e tt)
  | inr e ↦ (rw e (record { at_most = below_round (at + cycle) (max_of app a); round = h.round }))
]

module _ (app : App) (s : State) where
  alarm_after : (a : ℕ) (x : AlarmState) → a < length s.alarms → IsAlarmState app a x → ((u : ℕ) → u < length app.alarms → IsAlarmState app u (alarm_state s u)) →
      (u : ℕ) → u < length app.alarms → IsAlarmState app u (alarm_state (with_alarm s a x) u)
  alarm_after a x known right others u h = elim (cases_eq u a) [
    | inl same ↦ subst (λ (v : ℕ). IsAlarmState app v (alarm_state (with_alarm s a x) v)) (sym same) (subst (IsAlarmState app a) (sym (get_or-set_same s.alarms a x Idle known)) right)
    | inr other ↦ subst (IsAlarmState app u) (sym (get_or-set_other s.alarms a u x Idle other)) (others u h)
  ]

  -- a state with another state of an alarm
  pub with_alarm_keeps : (a : ℕ) (x : AlarmState) → Well app s → a < length app.alarms → IsAlarmState app a x → Well app (with_alarm s a x)
  with_alarm_keeps a x w known right = let here : a < length s.alarms = omega (arith, w.alarms_len) in record {
    mode = w.mode;
    tasks_len = w.tasks_len;
    counters_len = w.counters_len;
    alarms_len = length-set s.alarms a x ∙ w.alarms_len;
    sources_len = w.sources_len;
    latched_len = w.latched_len;
    tasks = w.tasks;
    counters = w.counters;
    alarms = alarm_after a x here right w.alarms;
    processor = processor_keeps app s (with_alarm s a x) (λ u h. h) (λ k. refl) s.processor w.processor;
    line = w.line;
  }

  pub set_rel_alarm_keeps : (a i c : ℕ) → Well app s → a < length app.alarms → Well app (set_rel_alarm app s a i c).state
  unfolding set_rel_alarm
  set_rel_alarm_keeps a i c w known = elim (cases_Bool (not (is_idle (alarm_state s a)))) [
    | inl e ↦ (rw e w)
    | inr e ↦ elim (cases_Bool (nat_eq i 0 || nat_lt (max_of app a) i || not (is_cycle app a c))) [
      | inl f ↦ (rw (e, f) w)
      | inr f ↦ (rw (e, f) (with_alarm_keeps a _ w known (record {
        at_most = below_round (value_of app s a + i) (max_of app a);
        round = not-false (is_cycle app a c) (or_parts (nat_eq i 0 || nat_lt (max_of app a) i) (not (is_cycle app a c)) f).1;
      })))
    ]
  ]

  pub set_abs_alarm_keeps : (a i c : ℕ) → Well app s → a < length app.alarms → Well app (set_abs_alarm app s a i c).state
  unfolding set_abs_alarm
  set_abs_alarm_keeps a i c w known = elim (cases_Bool (not (is_idle (alarm_state s a)))) [
    | inl e ↦ (rw e w)
    | inr e ↦ elim (cases_Bool (nat_lt (max_of app a) i || not (is_cycle app a c))) [
      | inl f ↦ (rw (e, f) w)
      | inr f ↦ (let p = or_parts (nat_lt (max_of app a) i) (not (is_cycle app a c)) f in
          let low : nat_lt (max_of app a) i ≡ false = p.0 in
          rw (e, f) (with_alarm_keeps a _ w known (record { at_most = grind (arith, nat_tests); round = not-false (is_cycle app a c) p.1 })))
    ]
  ]

  pub cancel_alarm_keeps : (a : ℕ) → Well app s → a < length app.alarms → Well app (cancel_alarm app s a).state
  unfolding cancel_alarm
  cancel_alarm_keeps a w known = elim (cases_Bool (is_idle (alarm_state s a))) [
    | inl e ↦ (rw e w)
    | inr e ↦ (rw e (with_alarm_keeps a Idle w known tt))
  ]

  time_left_keeps : (a : ℕ) (o : Option ℕ) → Well app s → Well app (time_left app s a o).state
  time_left_keeps a None w = w
  time_left_keeps a (Some at) w = w

  pub get_alarm_keeps : (a : ℕ) → Well app s → Well app (get_alarm app s a).state
  unfolding get_alarm
  get_alarm_keeps a w = time_left_keeps a (due (alarm_state s a)) w

  counter_after : (a n : ℕ) → a < length s.counters → n ≤ (the_counter app a).max → ((u : ℕ) → u < length app.counters → counter_value s u ≤ (the_counter app u).max) →
      (u : ℕ) → u < length app.counters → slice_index_or (slice_set s.counters a n) u 0 ≤ (the_counter app u).max
  counter_after a n known right others u h = elim (cases_eq u a) [
    | inl same ↦ subst (λ (v : ℕ). slice_index_or (slice_set s.counters a n) v 0 ≤ (the_counter app v).max) (sym same) (subst (λ (m : ℕ). m ≤ (the_counter app a).max) (sym (get_or-set_same s.counters a n 0 known)) right)
    | inr other ↦ subst (λ (m : ℕ). m ≤ (the_counter app u).max) (sym (get_or-set_other s.counters a u n 0 other)) (others u h)
  ]

  pub count_up_keeps : (c : ℕ) → Well app s → c < length app.counters → Well app (count_up app s c)
  unfolding count_up
  count_up_keeps c w known =
      let here : c < length s.counters = omega (arith, w.counters_len) in
      let n : ℕ = if nat_eq (counter_value s c) (the_counter app c).max then 0 else counter_value s c + 1 in
      record {
        mode = w.mode;
        tasks_len = w.tasks_len;
        counters_len = length-set s.counters c n ∙ w.counters_len;
        alarms_len = w.alarms_len;
        sources_len = w.sources_len;
        latched_len = w.latched_len;
        tasks = w.tasks;
        counters = counter_after c n here (counted (counter_value s c) (the_counter app c).max (w.counters c known)) w.counters;
        alarms = w.alarms;
        processor = processor_keeps app s (record s { counters = slice_set s.counters c n }) (λ u h. h) (λ k. refl) s.processor w.processor;
        line = w.line;
      }

  pub counted_by_keeps : (c : Caller) → Well app s → Well app (counted_by app s c)
  counted_by_keeps Nobody w = w
  counted_by_keeps (Task t) w = w
  counted_by_keeps (Routine k) w = elim (cases_Bool (is_counter app k.0)) [
    | inl e ↦ (let known : k.0 < length app.counters = grind (arith, nat_tests) in rw e (count_up_keeps k.0 w known))
    | inr e ↦ (rw e w)
  ]

acted_keeps : (app : App) (s : State) (x : Action) → Well app s → IsAction (tables app) x → Well app (acted app s x).state
acted_keeps app s (action.ActivateTask t) w h = activate_keeps app s t.0 w h
acted_keeps app s (action.SetEvent t m) w h = set_event_keeps app s t.0 m.0 w h.0

pub expire_keeps : (app : App) (s : State) (a : ℕ) → Well app s → a < length app.alarms → Well app (expire app s a).state
unfolding expire
expire_keeps app s a w known = elim (cases_Bool (is_due_at (due (alarm_state s a)) (value_of app s a))) [
  | inl e ↦ (rw e (acted_keeps app _ (the_alarm app a).action
      (with_alarm_keeps app s a _ w known (rearmed_is_right app a (alarm_state s a) (w.alarms a known))) (app.valid.each_alarm a no_alarm known).action))
  | inr e ↦ (rw e w)
]
