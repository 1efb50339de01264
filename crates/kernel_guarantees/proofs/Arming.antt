-- What an alarm is after a call that sets it, and after it expired.
use Rattle.std.proofs.Common.{◌≡◌, ◌≢◌, ℕ, ◌+◌, ◌%◌, ◌<◌, ◌≤◌, Bool, true, not, ◌||◌, ◌&&◌, nat_lt, nat_le, nat_eq, List, length, refl, sym, subst, ap, ◌∙◌, arith, inl, inr, Some, get_or-set_same}
use Rattle.std.proofs.lemmas.Bool.{and_parts, eqb-false, eqb-true, false≢true, Decides.{nat_tests}}
use Rattle.std.specs.{Prelude.{slice_index_or}}
use Rattle.osek_values.specs.declared.{numbers.{AlarmNo.{AlarmNo}}}
use Rattle.osek_values.specs.declared.status.Status.TheVariants as status
use Rattle.osek_standard.specs.declared.{app.App.{App}, state.{State.{State}, AlarmState.{AlarmState, TheVariants.{Idle, Armed}}}}
use Rattle.osek_standard.specs.{Apps.{is_cycle, max_of, the_alarm, the_counter}, States.{alarm_state, with_alarm}, Services.{Answer, acted, due, expire, is_due_at, is_idle, rearmed, set_abs_alarm, set_rel_alarm, ticks_left, value_of}}
use Rattle.osek_standard.specs.{Effects.{Effect, effect}, Well.{IsActive, IsAlarmState, Well}, Dispatch.{instruction, outcome_of}}
use Rattle.osek_standard.specs.declared.block.Kind.TheVariants as kind
use Rattle.kernel_guarantees.specs.{Alarms.{counter_of}, Events.{IsDue}, Scheduling.{kind_at}}
use Rattle.kernel_guarantees.proofs.{AlarmRuns.{value_within}, ClockMoves.{SameClock, acted_same, after, same_after, settled_same}, CountsLeft.{left, set_after}, LockedSteps.{effect_of}, Serving.{either_by, rel_parts}, StackSteps.{or_cases}}
use Rattle.kernel_guarantees.proofs.CallNames as call

at_most : (n k : ℕ) → nat_le n k ≡ true → n ≤ k
at_most n k e = grind (arith, nat_tests)

cycle_below : (low high cycle : ℕ) → (nat_eq cycle 0 || (nat_le low cycle && nat_le cycle high)) ≡ true → cycle ≤ high
cycle_below low high cycle e = elim (or_cases (nat_eq cycle 0) (nat_le low cycle && nat_le cycle high) e) [
  | inl none ↦ omega (arith, eqb-true cycle 0 none)
  | inr within ↦ at_most cycle high (and_parts (nat_le low cycle) (nat_le cycle high) within).1
]

module _ (app : App) (s : State) (w : Well app s) (active : IsActive s.processor) (choice : Bool) (a : AlarmNo) (known : a.0 < length app.alarms) where
  abbrev m : State
  m = after app s

  alarm_as : alarm_state m a.0 ≡ alarm_state s a.0
  alarm_as = ap (λ (xs : List AlarmState). slice_index_or xs a.0 Idle) (same_after app s).0

  value_as : value_of app m a.0 ≡ value_of app s a.0
  value_as = ap (λ (xs : List ℕ). slice_index_or xs (counter_of app a.0) 0) (same_after app s).1

  in_range : a.0 < length m.alarms
  in_range = omega (arith, known, w.alarms_len, ap (λ (xs : List AlarmState). length xs) (same_after app s).0)

  set_is : (x : AlarmState) → alarm_state (with_alarm m a.0 x) a.0 ≡ x
  set_is x = get_or-set_same m.alarms a.0 x Idle in_range

  abbrev r : State
  r = (instruction app s choice).state

  -- an outcome leaves the alarms and counters
  alarm_after : alarm_state r a.0 ≡ alarm_state (effect app s choice).state a.0
  unfolding instruction
  alarm_after = let e = effect app s choice in ap (λ (xs : List AlarmState). slice_index_or xs a.0 Idle) (settled_same app s e.state (outcome_of app e)).0

  value_after : value_of app r a.0 ≡ value_of app (effect app s choice).state a.0
  unfolding instruction
  value_after = let e = effect app s choice in ap (λ (xs : List ℕ). slice_index_or xs (counter_of app a.0) 0) (settled_same app s e.state (outcome_of app e)).1

  status_after : (instruction app s choice).notes.status ≡ (effect app s choice).notes.status
  unfolding instruction
  status_after = refl

  -- the alarm, and its counter as it stood
  abbrev Arms : AlarmState → State → Type 0
  Arms x n = (alarm_state n a.0 ≡ x) × (value_of app n a.0 ≡ value_of app s a.0)

  carried : (x : AlarmState) → Arms x (effect app s choice).state → Arms x r
  carried x h = (alarm_after ∙ h.0, value_after ∙ h.1)

  abbrev IfOk : Type 0 → AlarmState → Answer → Type 0
  IfOk P x z = z.status ≡ Some status.Ok → Arms x z.state × P

  relative_set : (i c : ℕ) → IfOk ((0 < i) × (i ≤ max_of app a.0)) (Armed ((value_of app s a.0 + i) % (max_of app a.0 + 1)) c) (set_rel_alarm app m a.0 i c)
  unfolding set_rel_alarm
  relative_set i c =
      let D : Answer → Type 0 = IfOk ((0 < i) × (i ≤ max_of app a.0)) (Armed ((value_of app s a.0 + i) % (max_of app a.0 + 1)) c) in
      either_by D (not (is_idle (alarm_state m a.0))) _ _ (λ _ e. absurd (cc (e)))
      (λ _. either_by D (nat_eq i 0 || nat_lt (max_of app a.0) i || not (is_cycle app a.0 c)) _ _ (λ _ e. absurd (cc (e)))
      (λ right e. let p = rel_parts (max_of app a.0) i (is_cycle app a.0 c) right in
      ((set_is (Armed ((value_of app m a.0 + i) % (max_of app a.0 + 1)) c) ∙ ap (λ (v : ℕ). Armed ((v + i) % (max_of app a.0 + 1)) c) value_as, value_as), (p.0, p.1))))

  absolute_set : (v c : ℕ) → IfOk (Unit {0}) (Armed v c) (set_abs_alarm app m a.0 v c)
  unfolding set_abs_alarm
  absolute_set v c =
      either_by (IfOk (Unit {0}) (Armed v c)) (not (is_idle (alarm_state m a.0))) _ _ (λ _ e. absurd (cc (e)))
      (λ _. either_by (IfOk (Unit {0}) (Armed v c)) (nat_lt (max_of app a.0) v || not (is_cycle app a.0 c)) _ _ (λ _ e. absurd (cc (e))) (λ _ e. ((set_is (Armed v c), value_as), tt)))

  due_as : is_due_at (due (alarm_state m a.0)) (value_of app m a.0) ≡ is_due_at (due (alarm_state s a.0)) (value_of app s a.0)
  due_as = ap (λ (y : AlarmState). is_due_at (due y) (value_of app m a.0)) alarm_as ∙ ap (is_due_at (due (alarm_state s a.0))) value_as

  after_action : (n : State) → SameClock (with_alarm m a.0 (rearmed app a.0 (alarm_state m a.0))) n → Arms (rearmed app a.0 (alarm_state s a.0)) n
  after_action n h = (
    ap (λ (xs : List AlarmState). slice_index_or xs a.0 Idle) h.0 ∙ set_is (rearmed app a.0 (alarm_state m a.0)) ∙ ap (rearmed app a.0) alarm_as,
    ap (λ (xs : List ℕ). slice_index_or xs (counter_of app a.0) 0) h.1 ∙ value_as,
  )

  expired_set : IsDue app s a.0 → Arms (rearmed app a.0 (alarm_state s a.0)) (expire app m a.0).state
  unfolding expire
  expired_set on =
      let x : AlarmState = rearmed app a.0 (alarm_state m a.0) in
      either_by (λ (z : Answer). Arms (rearmed app a.0 (alarm_state s a.0)) z.state) (is_due_at (due (alarm_state m a.0)) (value_of app m a.0)) _ _
      (λ _. after_action (acted app (with_alarm m a.0 x) (the_alarm app a.0).action).state (acted_same app s (with_alarm m a.0 x) (the_alarm app a.0).action)) (λ early. absurd (false≢true (sym early ∙ due_as ∙ on)))

  by_effect : (P : Type 0) (x : AlarmState) (e : Effect) → effect app s choice ≡ e → (e.notes.status ≡ Some status.Ok → Arms x e.state × P) → (instruction app s choice).notes.status ≡ Some status.Ok → Arms x r × P
  by_effect P x e is h ok = let k = h (sym (ap (λ (y : Effect). y.notes.status) is) ∙ sym status_after ∙ ok) in
      (carried x (subst (λ (y : Effect). Arms x y.state) (sym is) k.0), k.1)

  ticks_as : (at i : ℕ) → value_of app r a.0 ≡ value_of app s a.0 → left (max_of app a.0) (value_of app s a.0) at ≡ i → ticks_left app r a.0 at ≡ i
  ticks_as at i value h = ap (λ (v : ℕ). left (max_of app a.0) v at) value ∙ h

  pub relative_arms : (i c : ℕ) → kind_at app s ≡ kind.Call (call.Arm call.SetRelAlarm a i c) → (instruction app s choice).notes.status ≡ Some status.Ok
      → (at : ℕ) × (alarm_state r a.0 ≡ Armed at c) × (ticks_left app r a.0 at ≡ i)
  relative_arms i c is ok =
      let k = by_effect _ _ _ (effect_of app s choice active (kind.Call (call.Arm call.SetRelAlarm a i c)) is) (relative_set i c) ok in
      ((value_of app s a.0 + i) % (max_of app a.0 + 1), k.0.0, ticks_as _ i k.0.1 (set_after (max_of app a.0) (value_of app s a.0) i (value_within app a.0 known s w) k.1.0 k.1.1))

  pub absolute_arms : (v c : ℕ) → kind_at app s ≡ kind.Call (call.Arm call.SetAbsAlarm a v c) → (instruction app s choice).notes.status ≡ Some status.Ok → alarm_state r a.0 ≡ Armed v c
  absolute_arms v c is ok = (by_effect _ _ _ (effect_of app s choice active (kind.Call (call.Arm call.SetAbsAlarm a v c)) is) (absolute_set v c) ok).0.0

  module _ (at cycle : ℕ) (armed : alarm_state s a.0 ≡ Armed at cycle) (on : IsDue app s a.0) (is : kind_at app s ≡ kind.Expire a) where
    pub rearms : Arms (rearmed app a.0 (Armed at cycle)) r
    rearms = carried _ (subst (λ (y : Effect). Arms (rearmed app a.0 (Armed at cycle)) y.state) (sym (effect_of app s choice active (kind.Expire a) is)) (subst (λ (y : AlarmState). Arms (rearmed app a.0 y) (expire app m a.0).state) armed (expired_set on)))

    pub single_ends : cycle ≡ 0 → alarm_state r a.0 ≡ Idle
    single_ends none = rearms.0 ∙ either_by (λ (y : AlarmState). y ≡ Idle) (nat_eq cycle 0) _ _ (λ _. refl) (λ other. absurd (eqb-false cycle 0 other none))

    pub cycle_within : cycle ≤ max_of app a.0
    cycle_within =
        let right : is_cycle app a.0 cycle ≡ true = (subst (IsAlarmState app a.0) armed (w.alarms a.0 known)).round in
        cycle_below (the_counter app (counter_of app a.0)).min_cycle (max_of app a.0) cycle right

    at_value : at ≡ value_of app s a.0
    at_value = eqb-true at (value_of app s a.0) (sym (ap (λ (y : AlarmState). is_due_at (due y) (value_of app s a.0)) armed) ∙ on)

    pub cyclic_rearms : cycle ≢ 0 → (next : ℕ) × (alarm_state r a.0 ≡ Armed next cycle) × (ticks_left app r a.0 next ≡ cycle)
    cyclic_rearms some =
        let n : ℕ = (at + cycle) % (max_of app a.0 + 1) in
        let is_armed : rearmed app a.0 (Armed at cycle) ≡ Armed n cycle = either_by (λ (y : AlarmState). y ≡ Armed n cycle) (nat_eq cycle 0) _ _ (λ none. absurd (some (eqb-true cycle 0 none))) (λ _. refl) in (
          n,
          rearms.0 ∙ is_armed,
          ticks_as n cycle rearms.1 (ap (λ (v : ℕ). left (max_of app a.0) (value_of app s a.0) ((v + cycle) % (max_of app a.0 + 1))) at_value
              ∙ set_after (max_of app a.0) (value_of app s a.0) cycle (value_within app a.0 known s w) (omega (arith, some)) cycle_within),
        )
