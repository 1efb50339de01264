-- Which hooks run in each step.
use Rattle.std.proofs.Common.{◌≡◌, ◌⊎◌, ℕ, Bool, true, false, ◌||◌, nat_lt, cond, refl, sym, subst, ap, ◌∙◌, inl, inr, Some, None}
use Rattle.std.proofs.lemmas.Bool.{cases_Bool, false≢true}
use Rattle.std.specs.{Prelude.{is_some}, declared.option.Option.{Option}}
use Rattle.osek_values.specs.declared.{event.Event.{Event, TheVariants.{Run, Irq, Tick}}, hooks.HookSet.{HookSet}, numbers.{SourceNo.{SourceNo}, TaskNo.{TaskNo}}, status.{Ask.{Ask}}}
use Rattle.osek_values.specs.Hooks.{error, post_task, pre_task, shutdown, when}
use Rattle.osek_values.specs.declared.status.Ask.TheVariants as ask
use Rattle.osek_standard.specs.declared.{app.App.{App}, block.{Block.{Block}, Kind.{Kind}}, state.{State.{State}, Processor.{Processor}}, task_state.Place.{Place}}
use Rattle.osek_standard.specs.{Apps.{the_block}, States.{caller, here, task_of, with_latch}, Priority.{best, current_priority}, Well.{IsActive}}
use Rattle.osek_standard.specs.{Effects.{Effect, effect, effect_at, is_error, wanted}, Arrivals.{arrival, entered}, Kernel.{entered_or, run_by, step}}
use Rattle.osek_standard.specs.Dispatch.{Keep, Outcome, Stepped, To, if_above, if_any, instruction, is_left, outcome_by, outcome_of, preempted_by, settled, silent}
use Rattle.osek_standard.specs.declared.state.Processor.TheVariants as processor
use Rattle.osek_standard.specs.declared.block.Kind.TheVariants as kind
use Rattle.kernel_guarantees.specs.{HookNotes.{ErrorHook, Hook, ShutdownHook, StartupHook, is_in_set, is_set_true, runs}, Scheduling.{is_shutdown, kind_at}}
use Rattle.kernel_guarantees.proofs.{HookBits.{concluded_runs, dispatch_runs_no, error_when, in_wanted, in_when, or_false, post_due, pre_due}, LockedSteps.{effect_is}, Outcomes.{kept_processor}, Rescheduling.{HasAsked}, Serving.{either_by}}
use Rattle.kernel_guarantees.proofs.CallNames as call

-- a step notes nothing, or is an instruction
module _ (app : App) (s : State) (R : Stepped → Type 0) (stays : R (silent s)) (latches : (k : ℕ) → R (silent (with_latch s k true))) (enters : (k : SourceNo) → arrival app s ≡ Some k → R (silent (entered app s k)))
    (instructs : (choice : Bool) → IsActive s.processor → R (instruction app s choice)) where
  or_entered : (n : Stepped) (o : Option SourceNo) → arrival app s ≡ o → R n → R (entered_or (λ m. m) app s n o)
  or_entered n None is h = h
  or_entered n (Some j) is h = enters j is

  run_notes : (choice : Bool) (p : Processor) → s.processor ≡ p → R (run_by (λ m. m) app s (instruction app s choice) p)
  run_notes choice processor.Halted e = stays
  run_notes choice processor.Idle e = or_entered (silent s) (arrival app s) refl stays
  run_notes choice (processor.Running t) e = or_entered (instruction app s choice) (arrival app s) refl (instructs choice (subst IsActive (sym e) tt))
  run_notes choice (processor.Interrupted k over) e = or_entered (instruction app s choice) (arrival app s) refl (instructs choice (subst IsActive (sym e) tt))

  pub step_notes : (e : Event) → R (step app s e)
  step_notes (Run choice) = run_notes choice s.processor refl
  step_notes (Irq i) = latches _
  step_notes (Tick c) = latches c.0

module _ (app : App) where
  -- what an effect notes: ErrorHook by its status, or ShutdownHook
  pub record IsNoted (k : Kind) (e : Effect) : Type 0 where
    pub hooks : e.notes.hooks ≡ wanted app (cond (is_shutdown k) shutdown (when (is_error e.notes.status) error))
    pub status : is_shutdown k ≡ true → e.notes.status ≡ None

  at_kind : (s : State) (choice : Bool) (p : Place) (b : Block) (k : Kind) → IsNoted k (effect_at app s choice p b k)
  at_kind s choice p b (kind.Call call.ShutdownOs) = record { hooks = refl; status = λ _. refl }
  at_kind s choice p b (kind.Call (call.Mask call.WaitEvent m)) = record { hooks = refl; status = λ e. absurd (false≢true e) }
  at_kind s choice p b (kind.Call (call.Mask call.ClearEvent m)) = record { hooks = refl; status = λ e. absurd (false≢true e) }
  at_kind s choice p b _ = record { hooks = refl; status = λ e. absurd (false≢true e) }

  module _ (s : State) (choice : Bool) (active : IsActive s.processor) where
    abbrev e : Effect
    e = effect app s choice

    abbrev off : Bool
    off = is_shutdown (kind_at app s)

    abbrev due : ℕ
    due = cond off shutdown (when (is_error e.notes.status) error)

    what : IsNoted (kind_at app s) e
    what = subst (IsNoted (kind_at app s)) (sym (effect_is app s choice active)) (at_kind s choice (here s) (the_block app (here s).block.0) (kind_at app s))

    pub effect_runs : (h : Hook) → is_set_true app h ≡ true → runs h e.notes ≡ is_in_set h due
    effect_runs h t = ap (λ (x : HookSet). is_in_set h x.0) what.hooks ∙ in_wanted app h _ t

    -- a hook that no dispatch runs
    pub plain_runs : (h : Hook) → is_in_set h post_task ≡ false → is_in_set h pre_task ≡ false → is_set_true app h ≡ true → runs h (instruction app s choice).notes ≡ is_in_set h due
    unfolding instruction
    plain_runs h p q t = concluded_runs app h e (outcome_of app e) t ∙ ap (λ (x : Bool). runs h e.notes || x) (dispatch_runs_no h e.state e.ask (outcome_of app e) p q)
        ∙ or_false (runs h e.notes) ∙ effect_runs h t

    -- ErrorHook: exactly with a status other than E_OK
    error_by : (b : Bool) → off ≡ b → is_in_set ErrorHook (cond b shutdown (when (is_error e.notes.status) error)) ≡ is_error e.notes.status
    error_by true f = ap is_error (sym (what.status f))
    error_by false f = error_when (is_error e.notes.status)

    error_runs : is_set_true app ErrorHook ≡ true → runs ErrorHook (instruction app s choice).notes ≡ is_error (instruction app s choice).notes.status
    unfolding instruction
    error_runs t = plain_runs ErrorHook refl refl t ∙ error_by off refl

    startup_by : (b : Bool) → is_in_set StartupHook (cond b shutdown (when (is_error e.notes.status) error)) ≡ false
    startup_by true = refl
    startup_by false = in_when StartupHook (is_error e.notes.status) error refl

    startup_runs : is_set_true app StartupHook ≡ true → runs StartupHook (instruction app s choice).notes ≡ false
    startup_runs t = plain_runs StartupHook refl refl t ∙ startup_by off

    shutdown_by : (b : Bool) → is_in_set ShutdownHook (cond b shutdown (when (is_error e.notes.status) error)) ≡ b
    shutdown_by true = refl
    shutdown_by false = in_when ShutdownHook (is_error e.notes.status) error refl

    pub shutdown_runs : is_set_true app ShutdownHook ≡ true → runs ShutdownHook (instruction app s choice).notes ≡ off
    shutdown_runs t = plain_runs ShutdownHook refl refl t ∙ shutdown_by off

  module _ (s : State) where
    pub error_steps : (e : Event) → is_set_true app ErrorHook ≡ true → runs ErrorHook (step app s e).notes ≡ is_error (step app s e).notes.status
    error_steps e t = step_notes app s (λ n. runs ErrorHook n.notes ≡ is_error n.notes.status) refl (λ k. refl) (λ k a. refl) (λ choice active. error_runs s choice active t) e

    pub startup_steps : (e : Event) → is_set_true app StartupHook ≡ true → runs StartupHook (step app s e).notes ≡ false
    startup_steps e t = step_notes app s (λ n. runs StartupHook n.notes ≡ false) refl (λ k. refl) (λ k a. refl) (λ choice active. startup_runs s choice active t) e

  -- who is current before and after a step, and whether PostTaskHook and PreTaskHook run
  pub record IsTurned (s r : State) (post pre : Bool) : Type 0 where
    pub closes : post ≡ true → is_some (task_of s.processor) ≡ true
    pub opens : pre ≡ true → (is_some (task_of s.processor) ≡ false) ⊎ (post ≡ true)
    pub stays : post ≡ false → pre ≡ false → (task_of r.processor ≡ task_of s.processor) ⊎ (r.processor ≡ processor.Halted)
    pub within : (is_some (task_of r.processor) ≡ cond pre true (cond post false (is_some (task_of s.processor)))) ⊎ (r.processor ≡ processor.Halted)

  module _ (s r : State) where
    abbrev Turns : Ask → Outcome → Type 0
    Turns a o = IsTurned s (settled app r o) (post_due r a o) (pre_due o)

    keeps : (a : Ask) → (task_of r.processor ≡ task_of s.processor) ⊎ (r.processor ≡ processor.Halted) → Turns a Keep
    keeps a (inl same) = record {
      closes = λ e. absurd (false≢true e);
      opens = λ e. absurd (false≢true e);
      stays = λ e f. inl (ap task_of (kept_processor app r r.processor) ∙ same);
      within = inl (ap (λ (p : Processor). is_some (task_of p)) (kept_processor app r r.processor) ∙ ap is_some same);
    }
    keeps a (inr halted) = record {
      closes = λ e. absurd (false≢true e);
      opens = λ e. absurd (false≢true e);
      stays = λ e f. inr (kept_processor app r r.processor ∙ halted);
      within = inr (kept_processor app r r.processor ∙ halted);
    }

    -- another task gets the processor, where one had it or none
    gives : (a : Ask) (x : TaskNo) → (is_left a || is_some (task_of r.processor)) ≡ is_some (task_of s.processor) → Turns a (To (Some x))
    gives a x same = record {
      closes = λ e. sym same ∙ e;
      opens = λ e. elim (cases_Bool (is_some (task_of s.processor))) [
        | inl on ↦ inr (same ∙ on)
        | inr none ↦ inl none
      ];
      stays = λ e f. absurd (false≢true (sym f));
      within = inl refl;
    }

    above : (c : TaskNo) → (is_some (task_of r.processor) ≡ is_some (task_of s.processor)) → (task_of r.processor ≡ task_of s.processor) → (o : Option TaskNo) → Turns ask.Maybe (if_above app r c o)
    above c some same None = keeps ask.Maybe (inl same)
    above c some same (Some x) = either_by (Turns ask.Maybe) (nat_lt (current_priority app r c.0) (current_priority app r x.0)) (To (Some x)) Keep (λ _. gives ask.Maybe x some) (λ _. keeps ask.Maybe (inl same))

    left_to : is_some (task_of s.processor) ≡ true → (o : Option TaskNo) → Turns ask.Left (To o)
    left_to on (Some x) = gives ask.Left x (sym on)
    left_to on None = record {
      closes = λ e. on;
      opens = λ e. absurd (false≢true e);
      stays = λ e f. absurd (false≢true (sym e));
      within = inl refl;
    }

    freed_to : r.processor ≡ processor.Idle → task_of s.processor ≡ None → (o : Option TaskNo) → Turns ask.Free (if_any o)
    freed_to idle none None = keeps ask.Free (inl (ap task_of idle ∙ sym none))
    freed_to idle none (Some x) = gives ask.Free x (ap (λ (p : Processor). is_some (task_of p)) idle ∙ ap is_some (sym none))

    pub turns : (a : Ask) → HasAsked app s r a → Turns a (outcome_by app r a)
    turns ask.No (inl same) = keeps ask.No (inl same)
    turns ask.No (inr h) = keeps ask.No (inr h.0)
    turns ask.Maybe h = let same : task_of r.processor ≡ task_of s.processor = ap task_of h.0.runs ∙ sym h.0.was in
        subst (λ (p : Processor). Turns ask.Maybe (preempted_by app r (caller p))) (sym h.0.runs) (above h.0.task (ap is_some same) same (best app r))
    turns ask.Left h = left_to (ap (λ (p : Processor). is_some (task_of p)) h.0.ran) (best app r)
    turns ask.Free h = freed_to h.0 h.1 (best app r)
