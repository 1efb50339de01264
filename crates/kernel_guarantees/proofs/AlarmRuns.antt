-- By what alarms change, how counters count, and when an armed alarm expires.
use Rattle.std.proofs.Common.{◌≡◌, ◌⊎◌, ℕ, ◌+◌, ◌%◌, ◌<◌, ◌≤◌, Bool, true, false, cond, not, nat_eq, List, [], ◌∷◌, length, refl, sym, subst, ap, ◌∙◌, inl, inr, arith, get_or-set_same, get_or-set_other}
use Rattle.std.proofs.lemmas.{Bool.{cases_Bool, cases_eq, cases_lt, eq-eqb, eqb-true, false≢true, not-false}, List.{set_past}}
use Rattle.std.specs.Prelude.{slice_index_or, slice_set}
use Rattle.osek_values.specs.declared.{event.Event.{Event}}
use Rattle.osek_values.specs.Numbers.{alarm_no}
use Rattle.osek_standard.specs.declared.{app.App.{App}, block.Kind.{Kind}, call.ArmService.{ArmService}, state.{State.{State}, AlarmState.{AlarmState, TheVariants.{Idle, Armed}}}}
use Rattle.osek_standard.specs.{Apps.{max_of, the_counter, no_alarm, no_counter}, States.{alarm_state, counter_value}, Services.{count_up, due, is_due_at, rearmed, ticks_left, value_of}, Kernel.{step}, Well.{IsAlarmState, Well}}
use Rattle.osek_standard.specs.declared.block.Kind.TheVariants as kind
use Rattle.osek_standard.proofs.StepKeeps.{step_keeps}
use Rattle.kernel_guarantees.specs.{Alarms.{AlarmBecomes, IsCount, StaysAs, counter_of, counts, counts_in}, Events.{IsDue}, Reached.{after}, Scheduling.{kind_at}}
use Rattle.kernel_guarantees.proofs.{ClockMoves.{ClockMove, Counts, Rests, Sets, step_clock}, CountsLeft.{counted_due, counted_left, left, left_some, next}}
use Rattle.kernel_guarantees.proofs.CallNames as call

-- each alarm where one was set
set_alarm : (xs : List AlarmState) (b : ℕ) (x : AlarmState) (a : ℕ) → (slice_index_or (slice_set xs b x) a Idle ≡ slice_index_or xs a Idle) ⊎ ((b ≡ a) × (slice_index_or (slice_set xs b x) a Idle ≡ x))
set_alarm xs b x a = elim (cases_eq a b) [
  | inl same ↦ elim (cases_lt b (length xs)) [
    | inl known ↦ inr (sym same, subst (λ (n : ℕ). slice_index_or (slice_set xs b x) n Idle ≡ x) (sym same) (get_or-set_same xs b x Idle known))
    | inr past ↦ inl (ap (λ (ys : List AlarmState). slice_index_or ys a Idle) (set_past xs b x past))
  ]
  | inr other ↦ inl (get_or-set_other xs b a x Idle other)
]

set_value : (xs : List ℕ) (d n c : ℕ) → (slice_index_or (slice_set xs d n) c 0 ≡ slice_index_or xs c 0) ⊎ ((d ≡ c) × (slice_index_or (slice_set xs d n) c 0 ≡ n))
set_value xs d n c = elim (cases_eq c d) [
  | inl same ↦ elim (cases_lt d (length xs)) [
    | inl known ↦ inr (sym same, subst (λ (i : ℕ). slice_index_or (slice_set xs d n) i 0 ≡ n) (sym same) (get_or-set_same xs d n 0 known))
    | inr past ↦ inl (ap (λ (ys : List ℕ). slice_index_or ys c 0) (set_past xs d n past))
  ]
  | inr other ↦ inl (get_or-set_other xs d c n 0 other)
]

module _ (app : App) (s : State) where
  module _ (r : State) where
    moved_alarm : (a : ℕ) → ClockMove app s r → (alarm_state r a ≡ alarm_state s a) ⊎ (AlarmBecomes app s a (kind_at app s) (alarm_state r a) × (r.counters ≡ s.counters))
    moved_alarm a (Rests h) = inl (ap (λ (xs : List AlarmState). slice_index_or xs a Idle) h.0)
    moved_alarm a (Counts c is h k) = inl (ap (λ (xs : List AlarmState). slice_index_or xs a Idle) h)
    moved_alarm a (Sets b x becomes h k) = elim (set_alarm s.alarms b x a) [
      | inl same ↦ inl (ap (λ (xs : List AlarmState). slice_index_or xs a Idle) h ∙ same)
      | inr is ↦ inr (
        subst (λ (y : AlarmState). AlarmBecomes app s a (kind_at app s) y) (sym (ap (λ (xs : List AlarmState). slice_index_or xs a Idle) h ∙ is.1))
            (subst (λ (n : ℕ). AlarmBecomes app s n (kind_at app s) x) is.0 becomes),
        k,
      )
    ]

    moved_counter : (c : ℕ) → ClockMove app s r → (counter_value r c ≡ counter_value s c) ⊎ (IsCount app s c (kind_at app s) × (counter_value r c ≡ next (the_counter app c).max (counter_value s c)))
    unfolding count_up
    moved_counter c (Rests h) = inl (ap (λ (xs : List ℕ). slice_index_or xs c 0) h.1)
    moved_counter c (Sets b x becomes h k) = inl (ap (λ (xs : List ℕ). slice_index_or xs c 0) k)
    moved_counter c (Counts d is h k) = elim (set_value s.counters d (next (the_counter app d).max (counter_value s d)) c) [
      | inl same ↦ inl (ap (λ (xs : List ℕ). slice_index_or xs c 0) k ∙ same)
      | inr at ↦ inr (
        subst (λ (n : ℕ). IsCount app s n (kind_at app s)) at.0 is,
        ap (λ (xs : List ℕ). slice_index_or xs c 0) k ∙ at.1 ∙ ap (λ (n : ℕ). next (the_counter app n).max (counter_value s n)) at.0,
      )
    ]

  pub step_alarm : (e : Event) (a : ℕ) → Well app s → (alarm_state (step app s e).state a ≡ alarm_state s a) ⊎ (AlarmBecomes app s a (kind_at app s) (alarm_state (step app s e).state a) × ((step app s e).state.counters ≡ s.counters))
  step_alarm e a w = moved_alarm (step app s e).state a (step_clock app s e w)

  pub step_counter : (e : Event) (c : ℕ) → Well app s → (counter_value (step app s e).state c ≡ counter_value s c) ⊎ (IsCount app s c (kind_at app s) × (counter_value (step app s e).state c ≡ next (the_counter app c).max (counter_value s c)))
  step_counter e c w = moved_counter (step app s e).state c (step_clock app s e w)

module _ (app : App) (a : ℕ) (known : a < length app.alarms) where
  pub counter_known : counter_of app a < length app.counters
  counter_known = (app.valid.each_alarm a no_alarm known).counter

  pub max_some : 1 ≤ max_of app a
  max_some = (app.valid.each_counter (counter_of app a) no_counter counter_known).0

  pub value_within : (s : State) → Well app s → value_of app s a ≤ max_of app a
  value_within s w = w.counters (counter_of app a) counter_known

  module _ (at cycle : ℕ) where
    reachable : (s : State) → Well app s → alarm_state s a ≡ Armed at cycle → at ≤ max_of app a
    reachable s w e = (subst (IsAlarmState app a) e (w.alarms a known)).at_most

    abbrev c : ℕ
    c = counter_of app a

    pub unmoved : (s : State) (e : Event) → counts_in app s e c ≡ false → counter_value (step app s e).state c ≡ counter_value s c
    unmoved s e h = eqb-true (counter_value (step app s e).state c) (counter_value s c) (not-false (nat_eq (counter_value (step app s e).state c) (counter_value s c)) h)

    moved : (s : State) (e : Event) → Well app s → counts_in app s e c ≡ true → counter_value (step app s e).state c ≡ next (max_of app a) (counter_value s c)
    moved s e w on = elim (step_counter app s e c w) [
      | inl same ↦ absurd (false≢true (sym (ap not (eq-eqb (counter_value (step app s e).state c) (counter_value s c) same)) ∙ on))
      | inr counted ↦ counted.1
    ]

    abbrev one_if : Bool → ℕ
    one_if b = cond b 1 0

    -- without counts the counter stands where it stood
    stands : (s : State) (es : List Event) → counts app s c es ≡ 0 → counter_value (after app s es) c ≡ counter_value s c
    stands s [] e = refl
    stands s (e ∷ es) none = elim (cases_Bool (counts_in app s e c)) [
      | inl on ↦ absurd (let one : one_if (counts_in app s e c) ≡ 1 = ap one_if on in omega (arith, none, one))
      | inr same ↦ (let zero : one_if (counts_in app s e c) ≡ 0 = ap one_if same in stands (step app s e).state es (omega (arith, none, zero)) ∙ unmoved s e same)
    ]

    abbrev left_in : State → ℕ
    left_in s = ticks_left app s a at

    first : (s : State) (es : List Event) → StaysAs app s a (Armed at cycle) es → alarm_state s a ≡ Armed at cycle
    first s [] h = h
    first s (e ∷ es) h = h.0

    abbrev Expires : State → State → ℕ → Type 0
    Expires s n count = (count ≡ left_in s → at ≡ value_of app n a) × (count < left_in s → left_in n + count ≡ left_in s)

    module _ (s : State) (w : Well app s) (armed : alarm_state s a ≡ Armed at cycle) where
      some_left : 1 ≤ left_in s
      some_left = left_some (max_of app a) (value_of app s a) at max_some (value_within s w) (reachable s w armed)

      -- one step that counts, before a run
      one_count : (r n : State) (count : ℕ) → counter_value r c ≡ next (max_of app a) (counter_value s c) → (count ≡ 0 → counter_value n c ≡ counter_value r c) → Expires r n count → Expires s n (1 + count)
      one_count r n count value still later = elim (cases_eq (left_in s) 1) [
        | inl one ↦ (
          λ f. counted_due (max_of app a) (value_of app s a) at max_some (value_within s w) (reachable s w armed) one ∙ sym value ∙ sym (still (omega (arith, f, one))),
          λ f. absurd (omega (arith, f, one)),
        )
        | inr more ↦ (
            let far : 1 < left_in s = omega (arith, more, some_left) in
            let less : left_in r + 1 ≡ left_in s
            = ap (λ (v : ℕ). left (max_of app a) v at + 1) value ∙ counted_left (max_of app a) (value_of app s a) at max_some (value_within s w) (reachable s w armed) far in
            (λ f. later.0 (omega (arith, f, less)), λ f. let k = later.1 (omega (arith, f, less)) in omega (arith, k, less)))
      ]

      no_count : (r n : State) (count : ℕ) → counter_value r c ≡ counter_value s c → Expires r n count → Expires s n (0 + count)
      no_count r n count value later =
          let same : left_in r ≡ left_in s = ap (λ (v : ℕ). left (max_of app a) v at) value in
          (λ f. later.0 (omega (arith, f, same)), λ f. let k = later.1 (omega (arith, f, same)) in omega (arith, k, same))

    pub expires : (s : State) (es : List Event) → Well app s → StaysAs app s a (Armed at cycle) es → Expires s (after app s es) (counts app s c es)
    expires s [] w stays = (λ e. absurd (omega (arith, e, some_left s w stays)), λ e. omega arith)
    expires s (e ∷ es) w stays =
        let r = (step app s e).state in
        let later = expires r es (step_keeps app s e w) stays.1 in
        elim (cases_Bool (counts_in app s e c)) [
          | inl on ↦ subst (λ (b : Bool). Expires s (after app r es) (one_if b + counts app r c es)) (sym on)
              (one_count s w stays.0 r (after app r es) (counts app r c es) (moved s e w on) (stands r es) later)
          | inr off ↦ subst (λ (b : Bool). Expires s (after app r es) (one_if b + counts app r c es)) (sym off) (no_count s w stays.0 r (after app r es) (counts app r c es) (unmoved s e off) later)
        ]

    -- and at the last one it is due
    last : (s : State) (es : List Event) → StaysAs app s a (Armed at cycle) es → alarm_state (after app s es) a ≡ Armed at cycle
    last s [] h = h
    last s (e ∷ es) h = last (step app s e).state es h.1

    pub comes_due : (s : State) (es : List Event) → Well app s → StaysAs app s a (Armed at cycle) es → counts app s c es ≡ left_in s → IsDue app (after app s es) a
    comes_due s es w stays e =
        let n = after app s es in
        ap (λ (x : AlarmState). is_due_at (due x) (value_of app n a)) (last s es stays) ∙ eq-eqb at (value_of app n a) ((expires s es w stays).0 e)

-- by which kinds of instruction an alarm is armed, disarmed and armed anew
module _ (app : App) (s : State) (a at cycle : ℕ) where
  no_idle : Idle ≡ Armed at cycle → ⊥
  no_idle e = cc (e)

  pub armed_by : (k : Kind) (x : AlarmState) → alarm_state s a ≡ Idle → x ≡ Armed at cycle → AlarmBecomes app s a k x → (service : ArmService) × (i : ℕ) × (k ≡ kind.Call (call.Arm service (alarm_no a) i cycle))
  armed_by (kind.Call (call.Arm call.SetRelAlarm b i y)) x idle is h = (
    call.SetRelAlarm,
    i,
    ap (λ (n : ℕ). kind.Call (call.Arm call.SetRelAlarm (alarm_no n) i y)) h.0
        ∙ ap (λ (n : ℕ). kind.Call (call.Arm call.SetRelAlarm (alarm_no a) i n)) (let e = sym h.5 ∙ is in cc (e)),
  )
  armed_by (kind.Call (call.Arm call.SetAbsAlarm b i y)) x idle is h = (
    call.SetAbsAlarm,
    i,
    ap (λ (n : ℕ). kind.Call (call.Arm call.SetAbsAlarm (alarm_no n) i y)) h.0
        ∙ ap (λ (n : ℕ). kind.Call (call.Arm call.SetAbsAlarm (alarm_no a) i n)) (let e = sym h.4 ∙ is in cc (e)),
  )
  armed_by (kind.Call (call.Alarm call.CancelAlarm b)) x idle is h = absurd (no_idle (sym h.1 ∙ is))
  armed_by (kind.Expire b) x idle is h = absurd (no_idle (sym (h.2 ∙ ap (rearmed app a) idle) ∙ is))
  armed_by _ x idle is h = absurd h

  pub disarmed_by : (k : Kind) (x : AlarmState) → alarm_state s a ≡ Armed at cycle → x ≡ Idle → AlarmBecomes app s a k x
      → (k ≡ kind.Call (call.Alarm call.CancelAlarm (alarm_no a))) ⊎ ((k ≡ kind.Expire (alarm_no a)) × IsDue app s a × (cycle ≡ 0))
  disarmed_by (kind.Call (call.Arm call.SetRelAlarm b i y)) x armed is h = absurd (no_idle (sym h.1 ∙ armed))
  disarmed_by (kind.Call (call.Arm call.SetAbsAlarm b i y)) x armed is h = absurd (no_idle (sym h.1 ∙ armed))
  disarmed_by (kind.Call (call.Alarm call.CancelAlarm b)) x armed is h = inl (ap (λ (n : ℕ). kind.Call (call.Alarm call.CancelAlarm (alarm_no n))) h.0)
  disarmed_by (kind.Expire b) x armed is h = inr (ap (λ (n : ℕ). kind.Expire (alarm_no n)) h.0, h.1, none (nat_eq cycle 0) refl) where
    idle : rearmed app a (Armed at cycle) ≡ Idle
    idle = sym (h.2 ∙ ap (rearmed app a) armed) ∙ is

    none : (d : Bool) → nat_eq cycle 0 ≡ d → cycle ≡ 0
    none true e = eqb-true cycle 0 e
    none false e = absurd (let f = sym idle ∙ ap (λ (d : Bool). cond d Idle (Armed ((at + cycle) % (max_of app a + 1)) cycle)) e in cc (f))
  disarmed_by _ x armed is h = absurd h

  -- one that is armed is armed anew only where it expires
  pub anew_by : (k : Kind) (x : AlarmState) → alarm_state s a ≡ Armed at cycle → (x ≡ Idle → ⊥) → AlarmBecomes app s a k x → (k ≡ kind.Expire (alarm_no a)) × IsDue app s a
  anew_by (kind.Call (call.Arm call.SetRelAlarm b i y)) x armed some h = absurd (no_idle (sym h.1 ∙ armed))
  anew_by (kind.Call (call.Arm call.SetAbsAlarm b i y)) x armed some h = absurd (no_idle (sym h.1 ∙ armed))
  anew_by (kind.Call (call.Alarm call.CancelAlarm b)) x armed some h = absurd (some h.1)
  anew_by (kind.Expire b) x armed some h = (ap (λ (n : ℕ). kind.Expire (alarm_no n)) h.0, h.1)
  anew_by _ x armed some h = absurd h
