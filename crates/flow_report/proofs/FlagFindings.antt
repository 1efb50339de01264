-- What the values of a component say of suspended tasks, idle alarms and clear events.
use Rattle.std.proofs.Common.{◌≡◌, ◌⊎◌, ℕ, ◌+◌, ◌<◌, ◌^◌, Bool, true, false, not, List, [], ◌∷◌, ◌++◌, length, IsTrue, refl, sym, ap, subst, ◌∙◌, inl, inr, arith}
use Rattle.std.specs.{Prelude.{if◌then◌else◌}, Bool.{Decides}}
use Rattle.std.proofs.{lemmas.{Bool.{cases_lt, cases_eq}, Nat.{pow_pos}}, Math.Nat.{pow-le-pow_right, pow-suc}}
use Rattle.osek_values.specs.{Bits.{has_bit}, Numbers.{task_no, event_no, alarm_no, mask}, declared.{numbers.{TaskNo.{TaskNo}, AlarmNo.{AlarmNo}}}}
use Rattle.osek_standard.specs.declared.{app.App.{App}, state.{State.{State}, AlarmState.{AlarmState}}, task_state.Activity.{Activity}}
use Rattle.osek_standard.specs.declared.task_state.Activity.TheVariants as activity
use Rattle.osek_standard.specs.declared.state.AlarmState.TheVariants as alarm
use Rattle.osek_standard.specs.{Apps.{the_task}, States.{task_state, alarm_state}, Dispatch.{silent}}
use Rattle.abstract_state.specs.declared.value.{PartValue.{TheVariants.{OfTask, OfEvent, OfAlarm}}, Component.{Component}}
use Rattle.abstract_state.specs.declared.value.Component.TheVariants as component
use Rattle.abstract_state.specs.{Components.{component_number, abstract_of, part_of, value_in, is_armed, IsComponent}, Tables.{Sets}}
use Rattle.abstract_state.proofs.{Numbers.{component_here}, OrderLaws.{part_right, part_itself}}
use Rattle.flow_model.specs.{declared.test.Test.{Test}, Tests.{passes}}
use Rattle.flow_model.specs.declared.test.Test.TheVariants as test
use Rattle.flow_report.specs.{declared.finding.Finding.{Finding}, Findings.{IsOwnEvent, Denies, NoStateIs, Holds}, FindingOrder.{Rank, rank, rank_at, IsBefore}, Progress.{AreListed}, Reached.{ShowsState}}
use Rattle.flow_report.specs.declared.finding.Finding.TheVariants as finding
use Rattle.flow_report.proofs.{HookBits.{meets_bit}, Listing.{listed_onward, listed_more}}

-- a finding of a component holds where no value of it passes the test
module _ (app : App) (table : Sets) (f : Finding) (k : Component) (t : Test) (of : IsComponent app k)
    (denied : (s : State) → Denies app f (silent s) → IsTrue (passes t (part_of s k))) (shown : (s : State) → IsTrue (passes t (part_of s k)) → Denies app f (silent s)) where
  abbrev IsShown : Type 0
  IsShown = ShowsState (component_number app k) t app table

  part_here : (s : State) → abstract_of app s (component_number app k) ≡ part_of s k
  part_here s = ap (part_of s) (component_here app k of)

  none_shown : (IsShown → ⊥) → NoStateIs app table f
  none_shown never s inside d = never (record { state = s; inside = inside; passes = ap (passes t) (part_here s) ∙ denied s d })

  some_shown : IsShown → NoStateIs app table f → ⊥
  some_shown h none = none h.state h.inside (shown h.state (ap (passes t) (sym (part_here h.state)) ∙ h.passes))

  by_answer : (b : Bool) → Decides b IsShown → Decides (not b) (NoStateIs app table f)
  by_answer true d = (λ e. absurd (cc), λ none. absurd (some_shown (d.0 refl) none))
  by_answer false d = (λ e. none_shown (λ h. (let wrong : false ≡ true = d.1 h in absurd (cc))), λ none. refl)

suspended_passes : (x : Activity) → (x ≡ activity.Suspended → ⊥) → IsTrue (passes test.NotSuspended (OfTask (value_in x)))
suspended_passes activity.Suspended h = absurd (h refl)
suspended_passes (activity.Live y) h = refl
suspended_passes (activity.Waiting b) h = refl

passes_suspended : (x : Activity) → IsTrue (passes test.NotSuspended (OfTask (value_in x))) → x ≡ activity.Suspended → ⊥
passes_suspended activity.Suspended h e = cc
passes_suspended (activity.Live y) h e = cc
passes_suspended (activity.Waiting b) h e = cc

idle_passes : (x : AlarmState) → (x ≡ alarm.Idle → ⊥) → IsTrue (passes (test.Is (OfAlarm true)) (OfAlarm (is_armed x)))
idle_passes alarm.Idle h = absurd (h refl)
idle_passes (alarm.Armed at cycle) h = part_itself (OfAlarm true)

passes_idle : (x : AlarmState) → IsTrue (passes (test.Is (OfAlarm true)) (OfAlarm (is_armed x))) → x ≡ alarm.Idle → ⊥
passes_idle alarm.Idle h e = (let same : OfAlarm false ≡ OfAlarm true = part_right (OfAlarm false) (OfAlarm true) h in cc)
passes_idle (alarm.Armed at cycle) h e = cc

set_passes : (b : Bool) → b ≡ true → IsTrue (passes (test.Is (OfEvent true)) (OfEvent b))
set_passes true e = part_itself (OfEvent true)
set_passes false e = absurd (cc)

passes_set : (b : Bool) → IsTrue (passes (test.Is (OfEvent true)) (OfEvent b)) → b ≡ true
passes_set true h = refl
passes_set false h = (let same : OfEvent false ≡ OfEvent true = part_right (OfEvent false) (OfEvent true) h in absurd (cc))

module _ (app : App) (table : Sets) where
  pub suspended_answer : (t : TaskNo) (b : Bool) → t.0 < length app.tasks → Decides b (ShowsState (component_number app (component.Task t)) test.NotSuspended app table) → Decides (not b) (Holds app table (finding.Suspended t))
  suspended_answer t b known d =
      let none = by_answer app table (finding.Suspended t) (component.Task t) test.NotSuspended known
      (λ s h. suspended_passes (task_state s t.0).activity h) (λ s h. passes_suspended (task_state s t.0).activity h) b d in
      (λ e. (known, none.0 e), λ h. none.1 h.1)

  pub unarmed_answer : (a : AlarmNo) (b : Bool) → a.0 < length app.alarms → Decides b (ShowsState (component_number app (component.Alarm a)) (test.Is (OfAlarm true)) app table) → Decides (not b) (Holds app table (finding.Unarmed a))
  unarmed_answer a b known d =
      let none = by_answer app table (finding.Unarmed a) (component.Alarm a) (test.Is (OfAlarm true)) known
      (λ s h. idle_passes (alarm_state s a.0) h) (λ s h. passes_idle (alarm_state s a.0) h) b d in
      (λ e. (known, none.0 e), λ h. none.1 h.1)

  pub unset_answer : (t : TaskNo) (k : ℕ) (b : Bool) → t.0 < length app.tasks → k < 64 → IsTrue (has_bit (the_task app t.0).own.0 k)
      → Decides b (ShowsState (component_number app (component.Event t (event_no k))) (test.Is (OfEvent true)) app table) → Decides (not b) (Holds app table (finding.Unset t (mask (2 ^ k))))
  unset_answer t k b known few own d =
      let none = by_answer app table (finding.Unset t (mask (2 ^ k))) (component.Event t (event_no k)) (test.Is (OfEvent true)) (known, few, own)
      (λ s h. set_passes (has_bit (task_state s t.0).events.0 k) (sym (meets_bit (task_state s t.0).events.0 k) ∙ h))
      (λ s h. meets_bit (task_state s t.0).events.0 k ∙ passes_set (has_bit (task_state s t.0).events.0 k) h) b d in
      (λ e. ((known, k, record { known = few; own = own; is = refl }), none.0 e), λ h. none.1 h.1)

-- ---- the numbers of a kind

module _ (app : App) (table : Sets) where
  pub suspended_known : (g : Finding) → Holds app table g → (rank g).kind ≡ 0 → (rank g).number < length app.tasks
  suspended_known (finding.Suspended t) h e = h.0
  suspended_known (finding.Unarmed a) h e = absurd (omega (arith, e))
  suspended_known (finding.Unset t m) h e = absurd (omega (arith, e))
  suspended_known (finding.Silent k) h e = absurd (omega (arith, e))
  suspended_known (finding.Free b) h e = absurd (omega (arith, e))
  suspended_known (finding.Dead b) h e = absurd (omega (arith, e))

  pub suspended_once : (t : TaskNo) (i : ℕ) → t.0 ≡ i → (g : Finding) → Holds app table g → (rank g).kind ≡ 0 → (rank g).number ≡ i → g ≡ finding.Suspended t
  suspended_once t i is (finding.Suspended u) h e n = ap (λ (k : ℕ). finding.Suspended (task_no k)) (n ∙ sym is)
  suspended_once t i is (finding.Unarmed a) h e n = absurd (omega (arith, e))
  suspended_once t i is (finding.Unset u m) h e n = absurd (omega (arith, e))
  suspended_once t i is (finding.Silent k) h e n = absurd (omega (arith, e))
  suspended_once t i is (finding.Free b) h e n = absurd (omega (arith, e))
  suspended_once t i is (finding.Dead b) h e n = absurd (omega (arith, e))

  pub unarmed_known : (g : Finding) → Holds app table g → (rank g).kind ≡ 1 → (rank g).number < length app.alarms
  unarmed_known (finding.Suspended t) h e = absurd (omega (arith, e))
  unarmed_known (finding.Unarmed a) h e = h.0
  unarmed_known (finding.Unset t m) h e = absurd (omega (arith, e))
  unarmed_known (finding.Silent k) h e = absurd (omega (arith, e))
  unarmed_known (finding.Free b) h e = absurd (omega (arith, e))
  unarmed_known (finding.Dead b) h e = absurd (omega (arith, e))

  pub unarmed_once : (a : AlarmNo) (i : ℕ) → a.0 ≡ i → (g : Finding) → Holds app table g → (rank g).kind ≡ 1 → (rank g).number ≡ i → g ≡ finding.Unarmed a
  unarmed_once a i is (finding.Suspended u) h e n = absurd (omega (arith, e))
  unarmed_once a i is (finding.Unarmed x) h e n = ap (λ (k : ℕ). finding.Unarmed (alarm_no k)) (n ∙ sym is)
  unarmed_once a i is (finding.Unset u m) h e n = absurd (omega (arith, e))
  unarmed_once a i is (finding.Silent k) h e n = absurd (omega (arith, e))
  unarmed_once a i is (finding.Free b) h e n = absurd (omega (arith, e))
  unarmed_once a i is (finding.Dead b) h e n = absurd (omega (arith, e))

  -- a finding of an event, by its task and its bit
  abbrev IsUnset : Finding → ℕ → Type 0
  IsUnset g n = (t : TaskNo) × (j : ℕ) × (g ≡ finding.Unset t (mask (2 ^ j))) × (t.0 ≡ n) × (t.0 < length app.tasks) × IsOwnEvent app t.0 (2 ^ j) j × ((rank g).event ≡ 2 ^ j)

  unset_bit : (g : Finding) → Holds app table g → (rank g).kind ≡ 2 → IsUnset g (rank g).number
  unset_bit (finding.Suspended t) h e = absurd (omega (arith, e))
  unset_bit (finding.Unarmed a) h e = absurd (omega (arith, e))
  unset_bit (finding.Unset t m) h e =
      let own = h.0.2 in
      (t, h.0.1, ap (λ (n : ℕ). finding.Unset t (mask n)) own.is, refl, h.0.0, record { known = own.known; own = own.own; is = refl }, own.is)
  unset_bit (finding.Silent k) h e = absurd (omega (arith, e))
  unset_bit (finding.Free b) h e = absurd (omega (arith, e))
  unset_bit (finding.Dead b) h e = absurd (omega (arith, e))

  pub unset_known : (g : Finding) → Holds app table g → (rank g).kind ≡ 2 → (rank g).number < length app.tasks
  unset_known g h e = (let x = unset_bit g h e in omega (arith, x.3, x.4))

  -- a power of two below another has a lower exponent
  below_power : (j k : ℕ) → 2 ^ j < 2 ^ k → j < k
  below_power j k lt = elim (cases_lt j k) [
    | inl less ↦ less
    | inr le ↦ absurd (omega (arith, lt, pow-le-pow_right {n = 2} (omega arith) le))
  ]

  lower_power : (j k : ℕ) → j < k → 2 ^ j < 2 ^ k
  lower_power j k lt = omega (arith, pow-le-pow_right {n = 2} (omega arith) lt, pow_pos j, pow-suc 2 j)

  module _ (t : TaskNo) where
    abbrev at_bit : ℕ → Rank
    at_bit k = rank_at 2 t.0 (2 ^ k)

    -- before the bit k, or at it
    bit_next : (k : ℕ) (g : Finding) → Holds app table g → IsBefore (rank g) (at_bit (k + 1)) → IsBefore (rank g) (at_bit k) ⊎ ((g ≡ finding.Unset t (mask (2 ^ k))) × IsTrue (has_bit (the_task app t.0).own.0 k))
    bit_next k g h (inl a) = inl (inl a)
    bit_next k g h (inr (e, inl lt)) = inl (inr (e, inl lt))
    bit_next k g h (inr (e, inr (n, lt))) =
        let x = unset_bit g h e in
        let task : x.0 ≡ t = ap task_no (x.3 ∙ n) in
        let below : x.1 < k + 1 = below_power x.1 (k + 1) (omega (arith, lt, x.6)) in
        elim (cases_eq x.1 k) [
          | inl last ↦
              inr (
                x.2 ∙ ap (λ (u : TaskNo). finding.Unset u (mask (2 ^ x.1))) task ∙ ap (λ (j : ℕ). finding.Unset t (mask (2 ^ j))) last,
                subst (λ (j : ℕ). IsTrue (has_bit (the_task app t.0).own.0 j)) last (subst (λ (u : TaskNo). IsTrue (has_bit (the_task app u.0).own.0 x.1)) task x.5.own),
              )
          | inr other ↦ inl (inr (e, inr (n, omega (arith, x.6, lower_power x.1 k (omega (arith, below, other))))))
        ]

    pub bit_up : (k : ℕ) → IsBefore (at_bit k) (at_bit (k + 1))
    bit_up k = inr (refl, inr (refl, lower_power k (k + 1) (omega arith)))

    pub bits_begun : (fs : List Finding) → AreListed app table (rank_at 2 t.0 0) fs → AreListed app table (at_bit 0) fs
    bits_begun fs l = listed_onward app table (rank_at 2 t.0 0) (at_bit 0) fs l (inr (refl, inr (refl, omega arith))) back
      where
        back : (g : Finding) → Holds app table g → IsBefore (rank g) (at_bit 0) → IsBefore (rank g) (rank_at 2 t.0 0)
        back g h (inl a) = inl a
        back g h (inr (e, inl lt)) = inr (e, inl lt)
        back g h (inr (e, inr (n, lt))) = (let x = unset_bit g h e in absurd (omega (arith, lt, x.6, pow_pos x.1)))

    pub bits_done : (fs : List Finding) → AreListed app table (at_bit 64) fs → AreListed app table (rank_at 2 (t.0 + 1) 0) fs
    bits_done fs l = listed_onward app table (at_bit 64) (rank_at 2 (t.0 + 1) 0) fs l (inr (refl, inl (omega arith))) back
      where
        back : (g : Finding) → Holds app table g → IsBefore (rank g) (rank_at 2 (t.0 + 1) 0) → IsBefore (rank g) (at_bit 64)
        back g h (inl a) = inl a
        back g h (inr (e, inl lt)) = elim (cases_lt (rank g).number t.0) [
          | inl less ↦ inr (e, inl less)
          | inr le ↦
              (let x = unset_bit g h e in
              inr (e, inr (omega (arith, lt, le), omega (arith, x.6, lower_power x.1 64 x.5.known))))
        ]
        back g h (inr (e, inr (n, lt))) = absurd (omega (arith, lt))

    -- the bit k, if it is an own one
    pub bit_more : (k : ℕ) (fs after : List Finding) (holds : Bool) → AreListed app table (at_bit k) fs → Decides holds (Holds app table (finding.Unset t (mask (2 ^ k))))
        → after ≡ (if holds then fs ++ finding.Unset t (mask (2 ^ k)) ∷ [] else fs) → AreListed app table (at_bit (k + 1)) after
    bit_more k fs after holds l d e = listed_more app table (at_bit k) (at_bit (k + 1)) fs after (finding.Unset t (mask (2 ^ k))) holds l d refl (bit_up k) (λ g h b. elim (bit_next k g h b) [
      | inl before ↦ inl before
      | inr at ↦ inr at.0
    ]) e

    pub bit_passed : (k : ℕ) (fs : List Finding) → has_bit (the_task app t.0).own.0 k ≡ false → AreListed app table (at_bit k) fs → AreListed app table (at_bit (k + 1)) fs
    bit_passed k fs clear l = listed_onward app table (at_bit k) (at_bit (k + 1)) fs l (bit_up k) (λ g h b. elim (bit_next k g h b) [
      | inl before ↦ before
      | inr at ↦ (let own = at.1 in absurd (cc))
    ])
