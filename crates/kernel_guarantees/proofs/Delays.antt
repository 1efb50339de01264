-- While a task is ready, one task of a lower own priority at most has the processor.
use Rattle.std.proofs.Common.{◌≡◌, ◌≢◌, ◌⊎◌, ℕ, ◌<◌, ◌≤◌, true, false, List, [], ◌∷◌, refl, sym, ap, ◌∙◌, arith, inl, inr}
use Rattle.std.proofs.lemmas.Bool.{cases_Bool, cases_eq, cases_lt, false≢true}
use Rattle.osek_values.specs.declared.{event.Event.{Event}, numbers.TaskNo.{TaskNo}}
use Rattle.oil_system.specs.declared.objects.Schedule.{Schedule, TheVariants.{Full, Non}}
use Rattle.osek_standard.specs.declared.{app.App.{App}, state.State.{State}, task_state.{TaskState.{TaskState}, Activity.{Activity, TheVariants.{Suspended, Live, Waiting}}}}
use Rattle.osek_standard.specs.{Apps.{the_task}, TaskStates.{is_live, is_live_activity}, States.{task_of, task_state}, Internal.{occupied}, Kernel.{step}, Priority.{base_priority, current_priority, highest}}
use Rattle.osek_standard.specs.declared.state.Processor.TheVariants as processor
use Rattle.kernel_guarantees.specs.{Readiness.{IsReady, IsReadyAlong}, Reached.{IsReached, after}, Underway.{is_current, is_underway}}
use Rattle.kernel_guarantees.proofs.{CurrentChanges.{one_current}, Preempting.{greatest_gets, waits_as_high}, Reaching.{step_is_reached}, Settling.{reached_is_settled}, Stacked.{none_is_base, own, plain}, StackedSteps.{reached_is_stacked}}

pub ready_now : (app : App) (t : ℕ) (s : State) (es : List Event) → IsReadyAlong app t s es → IsReady s t
ready_now app t s [] h = h
ready_now app t s (e ∷ es) h = h.0

apart : (s : State) (t u : ℕ) → is_current s t ≡ false → is_current s u ≡ true → t ≢ u
apart s t u free now same = false≢true (sym free ∙ ap (λ (v : ℕ). is_current s v) same ∙ now)

module _ (app : App) where
  -- a task that isn't Live has no more than its own priority
  resting_base : (u : ℕ) (x : TaskState) (a : Activity) → x.activity ≡ a → is_live_activity a ≡ false → highest app (base_priority app u) (occupied app u x) ≡ base_priority app u
  resting_base u x Suspended e dead = ap (λ (a : Activity). highest app (base_priority app u) (occupied app u (record x { activity = a }))) e ∙ none_is_base app (base_priority app u) [] false refl
  resting_base u x (Live y) e dead = absurd (false≢true (sym dead))
  resting_base u x (Waiting b) e dead = ap (λ (a : Activity). highest app (base_priority app u) (occupied app u (record x { activity = a }))) e ∙ none_is_base app (base_priority app u) [] false refl

  pub fresh_base : (s : State) (u : ℕ) → is_underway app s u ≡ false → current_priority app s u ≡ base_priority app u
  fresh_base s u fresh = elim (cases_Bool (is_live (task_state s u))) [
    | inl live ↦ plain app s u live fresh
    | inr dead ↦ resting_base u (task_state s u) (task_state s u).activity refl dead
  ]

  module _ (t : ℕ) where
    -- of the tasks below t, a alone may have the processor or be raised to t's own priority
    record IsDelayedBy (a : ℕ) (s : State) : Type 0 where
      low : (u : ℕ) → u ≢ a → base_priority app u < base_priority app t → current_priority app s u < base_priority app t
      only : (b : ℕ) → is_current s b ≡ true → base_priority app b < base_priority app t → b ≡ a

    delay_begins : (s : State) (a : ℕ) → IsReached app s → is_current s a ≡ true → base_priority app a < base_priority app t → IsDelayedBy a s
    delay_begins s a reached now under = record {
      low = λ u other below. elim (cases_Bool (is_underway app s u)) [
        | inl begun ↦ (let h = (reached_is_stacked app s reached).below a u now other begun in omega (arith, h, under))
        | inr fresh ↦ omega (arith, below, fresh_base s u fresh)
      ];
      only = λ b mine below. one_current (task_of s.processor) b a mine now;
    }

    module _ (s : State) (e : Event) (reached : IsReached app s) (ready : IsReady s t) (still : IsReady (step app s e).state t) where
      abbrev n : State
      n = (step app s e).state

      -- who gets the processor was raised before
      gets_raised : (b : ℕ) → is_current s b ≡ false → is_current n b ≡ true → base_priority app t ≤ current_priority app s b
      gets_raised b free now =
          let h = greatest_gets app s reached e b t free now (apart n t b still.1 now) still.0 in
          omega (arith, h, own app n t)

      delay_goes_on : (a : ℕ) → IsDelayedBy a s → IsDelayedBy a n
      delay_goes_on a h = record {
        low = λ u other below. elim (cases_Bool (is_current s u)) [
          | inl mine ↦ absurd (other (h.only u mine below))
          | inr free ↦ elim (cases_Bool (is_current n u)) [
            | inl now ↦ absurd (let high = gets_raised u free now in let low = h.low u other below in omega (arith, high, low))
            | inr beside ↦ (let low = h.low u other below in omega (arith, low, waits_as_high app s reached e u free beside))
          ]
        ];
        only = λ b now below. elim (cases_Bool (is_current s b)) [
          | inl mine ↦ h.only b mine below
          | inr free ↦ elim (cases_eq b a) [
            | inl same ↦ same
            | inr other ↦ absurd (let high = gets_raised b free now in let low = h.low b other below in omega (arith, high, low))
          ]
        ];
      }

      -- who isn't raised stays so, and doesn't get the processor
      stays_low : (b : ℕ) → is_current s b ≡ false → current_priority app s b < base_priority app t → (is_current n b ≡ false) × (current_priority app n b < base_priority app t)
      stays_low b free low = elim (cases_Bool (is_current n b)) [
        | inl now ↦ absurd (let high = gets_raised b free now in omega (arith, high, low))
        | inr beside ↦ (beside, omega (arith, low, waits_as_high app s reached e b free beside))
      ]

    delayed_along : (s : State) (es : List Event) (a : ℕ) → IsReached app s → IsReadyAlong app t s es → IsDelayedBy a s → IsDelayedBy a (after app s es)
    delayed_along s [] a reached ready h = h
    delayed_along s (e ∷ es) a reached ready h =
        let n = (step app s e).state in
        delayed_along n es a (step_is_reached app s e reached) ready.1 (delay_goes_on s e reached ready.0 (ready_now app t n es ready.1) a h)

    pub one_delays : (s : State) (es : List Event) (a b : ℕ) → IsReached app s → IsReadyAlong app t s es → is_current s a ≡ true → base_priority app a < base_priority app t
        → is_current (after app s es) b ≡ true → base_priority app b < base_priority app t → a ≡ b
    one_delays s es a b reached ready now under later below = sym ((delayed_along s es a reached ready (delay_begins s a reached now under)).only b later below)

    low_along : (s : State) (es : List Event) (b : ℕ) → IsReached app s → IsReadyAlong app t s es → is_current s b ≡ false → current_priority app s b < base_priority app t → is_current (after app s es) b ≡ false
    low_along s [] b reached ready free low = free
    low_along s (e ∷ es) b reached ready free low =
        let n = (step app s e).state in
        let h = stays_low s e reached ready.0 (ready_now app t n es ready.1) b free low in
        low_along n es b (step_is_reached app s e reached) ready.1 h.0 h.1

    pub was_raised : (s : State) (es : List Event) (b : ℕ) → IsReached app s → IsReadyAlong app t s es → is_current (after app s es) b ≡ true → (is_current s b ≡ true) ⊎ (base_priority app t ≤ current_priority app s b)
    was_raised s es b reached ready later = elim (cases_Bool (is_current s b)) [
      | inl now ↦ inl now
      | inr free ↦ elim (cases_lt (current_priority app s b) (base_priority app t)) [
        | inl low ↦ absurd (false≢true (sym (low_along s es b reached ready free low) ∙ later))
        | inr high ↦ inr high
      ]
    ]

  -- who runs beside a ready task has at least its priority, or is non-preemptive
  pub runs_raised : (s : State) (c : TaskNo) (t : ℕ) → IsReached app s → s.processor ≡ processor.Running c → is_live (task_state s t) ≡ true
      → (current_priority app s t ≤ current_priority app s c.0) ⊎ ((the_task app c.0).schedule ≡ Non)
  runs_raised s c t reached runs live = by (the_task app c.0).schedule refl where
    by : (x : Schedule) → (the_task app c.0).schedule ≡ x → (current_priority app s t ≤ current_priority app s c.0) ⊎ ((the_task app c.0).schedule ≡ Non)
    by Full is = inl ((reached_is_settled app s reached).at_best c runs is t live)
    by Non is = inr is
