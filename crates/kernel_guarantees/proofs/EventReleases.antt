-- Events come by SetEvent alone, and a waiting task is released exactly by one that names an event that it waits for.
use Rattle.std.proofs.Common.{◌≡◌, ◌⊎◌, ℕ, Bool, true, false, refl, sym, subst, ap, ◌∙◌, inl, inr, arith, nat_eq}
use Rattle.std.proofs.lemmas.Bool.{and_parts, cases_Bool, eqb-true, false≢true}
use Rattle.std.specs.{Int.{bit_at}}
use Rattle.osek_values.specs.declared.{event.Event.{Event}, mask.Mask.{Mask}, numbers.{AlarmNo.{AlarmNo}, BlockNo.{BlockNo}}, status.Ask.{Ask}}
use Rattle.osek_values.specs.declared.status.Ask.TheVariants as ask
use Rattle.osek_values.specs.Numbers.{mask, task_no}
use Rattle.oil_system.specs.declared.objects.Action.{Action}
use Rattle.oil_system.specs.declared.objects.Action.TheVariants as action
use Rattle.osek_standard.specs.declared.{app.App.{App}, block.{Kind.{Kind}}, state.{State.{State}, Processor.{Processor}}}
use Rattle.osek_standard.specs.declared.task_state.{TaskState.{TaskState}, Place.{Place}, Activity.{TheVariants.{Waiting}}}
use Rattle.osek_standard.specs.{Apps.{awaited, the_alarm, the_block}, TaskStates.{is_live_activity}, States.{alarm_state, caller, here, task_state}}
use Rattle.osek_standard.specs.{Internal.{inside_as, kept_by}}
use Rattle.osek_standard.specs.Services.{Answer, due, expire, is_due_at, own_events, share, unnoted, value_of}
use Rattle.osek_standard.specs.{Effects.{Effect, asks_as, effect, effect_at, moved_by, moved_to, noted, place_at}, Kernel.{step}, Well.{IsActive, Well}}
use Rattle.osek_standard.specs.Dispatch.{instruction, outcome_by, settled}
use Rattle.osek_standard.specs.declared.block.Kind.TheVariants as kind
use Rattle.osek_standard.specs.declared.state.Processor.TheVariants as processor
use Rattle.kernel_guarantees.specs.{Events.{ActivatesBy, ActivatesTask, ClearsEvents, IsDue, SetsBy, SetsEvents}, Instructions.{action_activates, action_sets, may_activate, may_clear, may_set}, Scheduling.{kind_at}}
use Rattle.kernel_guarantees.proofs.{EventSends.{IsSent, KeepsEvents, instruction_sends, moving, not_live, unsent}, LockedSteps.{effect_is}, Lookups.{put_task}, Reaching.{step_has}, Serving.{asks_no, either_by}}
use Rattle.kernel_guarantees.proofs.CallNames as call

module _ (app : App) (s : State) where
  -- an alarm that isn't due does nothing
  expire_rests : (m : State) (a : ℕ) → is_due_at (due (alarm_state m a)) (value_of app m a) ≡ false → expire app m a ≡ unnoted m ask.No
  unfolding expire
  expire_rests m a e = either_by (λ (x : Answer). x ≡ unnoted m ask.No) (is_due_at (due (alarm_state m a)) (value_of app m a)) _ _ (λ on. absurd (false≢true (sym e ∙ on))) (λ _. refl)

  abbrev pub after : State
  after = moved_to s (the_block app (here s).block.0).next

  pub due_after : (a : ℕ) (to : Place) (p : Processor) → is_due_at (due (alarm_state (moved_by s p to) a)) (value_of app (moved_by s p to) a) ≡ is_due_at (due (alarm_state s a)) (value_of app s a)
  due_after a to processor.Halted = refl
  due_after a to processor.Idle = refl
  due_after a to (processor.Running t) = refl
  due_after a to (processor.Interrupted k over) = refl

  abbrev Rests : Effect → Type 0
  Rests e = (e.state ≡ after) × (e.ask ≡ ask.No)

  pub rests_unless_due : (choice : Bool) (a : AlarmNo) → IsActive s.processor → kind_at app s ≡ kind.Expire a → is_due_at (due (alarm_state s a.0)) (value_of app s a.0) ≡ false → Rests (effect app s choice)
  rests_unless_due choice a active is early =
      let e = effect_is app s choice active ∙ ap (λ (k : Kind). effect_at app s choice (here s) (the_block app (here s).block.0) k) is in
      let nothing = expire_rests after a.0 (due_after a.0 (place_at (the_block app (here s).block.0).next 0) s.processor ∙ early) in
      subst Rests (sym (e ∙ ap (λ (x : Answer). noted app (asks_as app (caller s.processor) (kind.Expire a) x)) nothing)) (refl, asks_no app (caller s.processor) (kind.Expire a))

  module _ (u : ℕ) where
    abbrev x : TaskState
    x = task_state s u

    inside_keeps : (b : Bool) (y : TaskState) → KeepsEvents x y → KeepsEvents x (record y { activity = inside_as b y.activity })
    inside_keeps b y h = record { events = h.events; waiting = λ d e. ap (inside_as b) (h.waiting d e) }

    kept_keeps : (r : State) (p : Processor) → KeepsEvents x (task_state r u) → KeepsEvents x (task_state (kept_by app r p) u)
    kept_keeps r processor.Halted h = h
    kept_keeps r processor.Idle h = h
    kept_keeps r (processor.Running t) h = put_task r t.0 _ (λ v z. v ≡ u → KeepsEvents x z)
        (λ e. inside_keeps _ (task_state r t.0) (subst (λ (n : ℕ). KeepsEvents x (task_state r n)) (sym e) h)) (λ v e. subst (λ (n : ℕ). KeepsEvents x (task_state r n)) (sym e) h) u refl
    kept_keeps r (processor.Interrupted k over) h = h

    rested_keeps : (e : Effect) → Rests e → KeepsEvents x (task_state (settled app e.state (outcome_by app e.state e.ask)) u)
    rested_keeps e h = subst (λ (a : Ask). KeepsEvents x (task_state (settled app e.state (outcome_by app e.state a)) u)) (sym h.1)
        (kept_keeps e.state e.state.processor (subst (λ (n : State). KeepsEvents x (task_state n u)) (sym h.0) (moving app s u (place_at (the_block app (here s).block.0).next 0) s.processor)))

    early_keeps : (choice : Bool) (a : AlarmNo) → IsActive s.processor → kind_at app s ≡ kind.Expire a → is_due_at (due (alarm_state s a.0)) (value_of app s a.0) ≡ false
        → KeepsEvents x (task_state (instruction app s choice).state u)
    unfolding instruction
    early_keeps choice a active is early = rested_keeps (effect app s choice) (rests_unless_due choice a active is early)

    -- how the events came and went, and by what it was released
    pub record IsSetRight (y : TaskState) : Type 0 where
      pub comes : (i : ℕ) → bit_at x.events.0 i ≡ 0 → bit_at y.events.0 i ≡ 1 → (m : ℕ) × SetsEvents app s u m × (bit_at m i ≡ 1)
      pub goes : (i : ℕ) → bit_at x.events.0 i ≡ 1 → bit_at y.events.0 i ≡ 0 → ((m : ℕ) × ClearsEvents app s u m × (bit_at m i ≡ 1)) ⊎ ActivatesTask app s u
      pub released : (b : BlockNo) → x.activity ≡ Waiting b → is_live_activity y.activity ≡ true
          → (m : ℕ) × SetsEvents app s u m × (share (awaited (the_block app b.0).kind) (own_events app s u m) ≡ true)

    right_kept : (y : TaskState) → KeepsEvents x y → IsSetRight y
    right_kept y k = record {
      comes = λ i e f. absurd (omega (arith, e, f, ap (λ (m : Mask). bit_at m.0 i) k.events));
      goes = λ i e f. absurd (omega (arith, e, f, ap (λ (m : Mask). bit_at m.0 i) k.events));
      released = λ b e live. absurd (not_live b y.activity (k.waiting b e) live);
    }

    module _ (y : TaskState) (quiet : (a : AlarmNo) → kind_at app s ≡ kind.Expire a → is_due_at (due (alarm_state s a.0)) (value_of app s a.0) ≡ false → KeepsEvents x y) where
      is_due : (a : AlarmNo) → kind_at app s ≡ kind.Expire a → (KeepsEvents x y → ⊥) → IsDue app s a.0
      is_due a is changes = elim (cases_Bool (is_due_at (due (alarm_state s a.0)) (value_of app s a.0))) [
        | inl on ↦ on
        | inr early ↦ absurd (changes (quiet a is early))
      ]

      action_sends : (z : Action) (m : ℕ) → action_sets z u m ≡ true → z ≡ action.SetEvent (task_no u) (mask m)
      action_sends (action.ActivateTask v) m e = absurd (false≢true e)
      action_sends (action.SetEvent v n) m e =
          let p = and_parts (nat_eq v.0 u) (nat_eq n.0 m) e in
          ap (λ (i : ℕ). action.SetEvent (task_no i) n) (eqb-true v.0 u p.0) ∙ ap (λ (i : ℕ). action.SetEvent (task_no u) (mask i)) (eqb-true n.0 m p.1)

      action_starts : (z : Action) → action_activates z u ≡ true → z ≡ action.ActivateTask (task_no u)
      action_starts (action.ActivateTask v) e = ap (λ (i : ℕ). action.ActivateTask (task_no i)) (eqb-true v.0 u e)
      action_starts (action.SetEvent v n) e = absurd (false≢true e)

      sets_by : (m : ℕ) (k : Kind) → kind_at app s ≡ k → may_set app k u m ≡ true → (KeepsEvents x y → ⊥) → SetsBy app s u m k
      sets_by m (kind.Call (call.SetEvent v n)) is e changes = let p = and_parts (nat_eq v.0 u) (nat_eq n.0 m) e in (ap task_no (eqb-true v.0 u p.0), ap mask (eqb-true n.0 m p.1))
      sets_by m (kind.Expire a) is e changes = (action_sends (the_alarm app a.0).action m e, is_due a is changes)
      sets_by m _ is e changes = absurd (false≢true e)

      activates_by : (k : Kind) → kind_at app s ≡ k → may_activate app k u ≡ true → (KeepsEvents x y → ⊥) → ActivatesBy app s u k
      activates_by (kind.Call (call.Task call.ActivateTask v)) is e changes = ap task_no (eqb-true v.0 u e)
      activates_by (kind.Call (call.Task call.ChainTask v)) is e changes = ap task_no (eqb-true v.0 u e)
      activates_by (kind.Expire a) is e changes = (action_starts (the_alarm app a.0).action e, is_due a is changes)
      activates_by _ is e changes = absurd (false≢true e)

      clears_by : (m : ℕ) (k : Kind) → may_clear k m ≡ true → k ≡ kind.Call (call.Mask call.ClearEvent (mask m))
      clears_by m (kind.Call (call.Mask call.ClearEvent n)) e = ap (λ (i : ℕ). kind.Call (call.Mask call.ClearEvent (mask i))) (eqb-true n.0 m e)
      clears_by m _ e = absurd (false≢true e)

      set_right : IsSent app s u y → IsSetRight y
      set_right h = record {
        comes = λ i e f. let c = h.comes i e f in
            (c.0, sets_by c.0 (kind_at app s) refl c.1 (λ k. omega (arith, e, f, ap (λ (m : Mask). bit_at m.0 i) k.events)), c.2);
        goes = λ i e f. elim (h.goes i e f) [
          | inl c ↦ inl (c.0, record { runs = c.1; calls = clears_by c.0 (kind_at app s) c.2 }, c.3)
          | inr c ↦ inr (activates_by (kind_at app s) refl c (λ k. omega (arith, e, f, ap (λ (m : Mask). bit_at m.0 i) k.events)))
        ];
        released = λ b e live. let c = h.released b e live in
            (c.0, sets_by c.0 (kind_at app s) refl c.1 (λ k. not_live b y.activity (k.waiting b e) live), c.2);
      }

    abbrev Has : State → Type 0
    Has r = IsSetRight (task_state r u)

    pub step_sets : (e : Event) → Well app s → Has (step app s e).state
    step_sets e w = step_has app s Has (right_kept x (unsent app s u)) (λ l. right_kept x (unsent app s u)) (λ l a. right_kept x (unsent app s u))
        (λ choice active. set_right (task_state (instruction app s choice).state u) (λ a is early. early_keeps choice a active is early) (instruction_sends app s u choice w active)) e
