-- An instruction leads to the end of the kernel exactly where it is ShutdownOS.
use Rattle.std.proofs.Common.{◌≡◌, ◌⊎◌, ℕ, Bool, true, false, not, ◌&&◌, refl, sym, subst, ap, ◌∙◌, inl, inr, Some, None}
use Rattle.std.proofs.lemmas.Bool.{cases_Bool, false≢true}
use Rattle.std.specs.declared.option.Option.{Option}
use Rattle.osek_values.specs.declared.{event.Event.{Event}, numbers.{SourceNo.{SourceNo}, TaskNo.{TaskNo}}, status.Ask.{Ask}}
use Rattle.osek_values.specs.declared.status.Ask.TheVariants as ask
use Rattle.osek_standard.specs.declared.{app.App.{App}, block.Kind.{Kind}, state.{State.{State}, Processor.{Processor}}}
use Rattle.osek_standard.specs.{Apps.{the_block}, States.{here, with_source}, Services.{count_up}}
use Rattle.osek_standard.specs.{Effects.{Effect, effect, effect_at, halted_by, moved_to, place_at, returned_to}, Kernel.{step}, Well.{IsActive, Well}}
use Rattle.osek_standard.specs.Dispatch.{Keep, Outcome, To, instruction, outcome_by, outcome_of, settled}
use Rattle.osek_standard.specs.declared.block.Kind.TheVariants as kind
use Rattle.osek_standard.specs.declared.state.Processor.TheVariants as processor
use Rattle.osek_standard.specs.declared.state.Source.TheVariants as source
use Rattle.osek_standard.proofs.Callers.{moved_processor}
use Rattle.kernel_guarantees.specs.{HookNotes.{ShutdownHook, is_halted, is_set_true, runs}, Scheduling.{is_shutdown, kind_at}}
use Rattle.kernel_guarantees.proofs.{Deeds.{AreDeeds}, Effecting.{effect_does}, HookSteps.{shutdown_runs, step_notes}, LockedSteps.{effect_is}, Outcomes.{kept_processor}}
use Rattle.kernel_guarantees.proofs.CallNames as call

active_goes : (p : Processor) → IsActive p → is_halted p ≡ false
active_goes processor.Halted h = absurd h
active_goes processor.Idle h = refl
active_goes (processor.Running t) h = refl
active_goes (processor.Interrupted k over) h = refl

pub shutdown_kind : (k : Kind) → is_shutdown k ≡ true → k ≡ kind.Call call.ShutdownOs
shutdown_kind (kind.Call call.ShutdownOs) e = refl
shutdown_kind _ e = absurd (false≢true e)

module _ (app : App) (s : State) (w : Well app s) (active : IsActive s.processor) where
  abbrev off : Bool
  off = is_shutdown (kind_at app s)

  abbrev AsBefore : State → Type 0
  AsBefore m = m.processor ≡ s.processor

  abbrev GoesOn : State → Type 0
  GoesOn r = (is_halted r.processor ≡ false) ⊎ (off ≡ true)

  going : (m : State) → AsBefore m → GoesOn m
  going m q = inl (ap is_halted q ∙ active_goes s.processor active)

  counting : (m : State) (c : ℕ) → AsBefore m → AsBefore (count_up app m c)
  unfolding count_up
  counting m c q = q

  returning : (m : State) (k : SourceNo) (over : Option TaskNo) (o : Option SourceNo) → GoesOn (returned_to app (with_source m k.0 source.Out) over o).state
  returning m k None None = inl refl
  returning m k (Some t) None = inl refl
  returning m k over (Some j) = inl refl

  going_deeds : AreDeeds app (kind_at app s) AsBefore (λ r a. GoesOn r)
  going_deeds = record {
    counts = λ m c q up. counting m c q;
    arms = λ m a x q sets. q;
    rests = λ m v q. going m q;
    takes = λ m c r v q e free low. going m q;
    gives = λ m c n v q e goes. going m q;
    routine_takes = λ m l r v q e free low. going m q;
    routine_gives = λ m l n v q e. going m q;
    activates = λ m t v q known room goes. going m q;
    wakes = λ m t e v q known ext waits goes. going m q;
    sets = λ m t e v q known waits sent. going m q;
    clears = λ m c e v q r goes. going m q;
    ends = λ m c v q e goes. inl refl;
    chains = λ m c t v q e known room goes chained. inl refl;
    waits = λ m c v q e ext none goes. inl refl;
    lets_out = λ m c v q e none goes. going m q;
    returns = λ m l over o v q e f goes. returning m l over o;
    halts = λ m v q goes. inr goes;
  }

  settling : (r : State) (o : Outcome) → GoesOn r → GoesOn (settled app r o)
  settling r Keep (inl h) = inl (ap is_halted (kept_processor app r r.processor) ∙ h)
  settling r Keep (inr h) = inr h
  settling r (To None) h = inl refl
  settling r (To (Some x)) h = inl refl

  module _ (choice : Bool) where
    goes_on : GoesOn (instruction app s choice).state
    unfolding instruction
    goes_on =
        let e = effect app s choice in
        settling e.state (outcome_of app e) (effect_does app AsBefore (λ r a. GoesOn r) s going_deeds w active refl (λ to. moved_processor s to s.processor) choice)

    abbrev Halts : Effect → Type 0
    Halts e = (e.state.processor ≡ processor.Halted) × (e.ask ≡ ask.No)

    halting : (m : State) (p : Processor) → IsActive p → (halted_by m p).processor ≡ processor.Halted
    halting m processor.Halted h = absurd h
    halting m processor.Idle h = absurd h
    halting m (processor.Running t) h = refl
    halting m (processor.Interrupted k over) h = refl

    effect_halts : off ≡ true → Halts (effect app s choice)
    effect_halts e =
        let is = effect_is app s choice active ∙ ap (λ (k : Kind). effect_at app s choice (here s) (the_block app (here s).block.0) k) (shutdown_kind (kind_at app s) e) in
        let m : State = moved_to s (the_block app (here s).block.0).next in
        let at : IsActive m.processor = subst IsActive (sym (moved_processor s (place_at (the_block app (here s).block.0).next 0) s.processor)) active in
        subst Halts (sym is) (halting m m.processor at, refl)

    halted_after : (e : Effect) → Halts e → (settled app e.state (outcome_of app e)).processor ≡ processor.Halted
    halted_after e h = subst (λ (a : Ask). (settled app e.state (outcome_by app e.state a)).processor ≡ processor.Halted) (sym h.1) (kept_processor app e.state e.state.processor ∙ h.0)

    halts : off ≡ true → (instruction app s choice).state.processor ≡ processor.Halted
    unfolding instruction
    halts e = halted_after (effect app s choice) (effect_halts e)

    pub halted_is : is_halted (instruction app s choice).state.processor ≡ off
    halted_is = elim (cases_Bool off) [
      | inl on ↦ ap is_halted (halts on) ∙ sym on
      | inr goes ↦ elim goes_on [
        | inl h ↦ h ∙ sym goes
        | inr on ↦ absurd (false≢true (sym goes ∙ on))
      ]
    ]

-- the step ends the kernel
abbrev ends : State → State → Bool
ends s r = not (is_halted s.processor) && is_halted r.processor

never : (p q : Processor) → is_halted q ≡ is_halted p → (not (is_halted p) && is_halted q) ≡ false
never processor.Halted q e = refl
never processor.Idle q e = e
never (processor.Running t) q e = e
never (processor.Interrupted k over) q e = e

never_in : (b : Bool) → (b && false) ≡ false
never_in true = refl
never_in false = refl

pub shutdown_steps : (app : App) (s : State) → Well app s → (e : Event) → is_set_true app ShutdownHook ≡ true → runs ShutdownHook (step app s e).notes ≡ ends s (step app s e).state
shutdown_steps app s w e t = step_notes app s (λ n. runs ShutdownHook n.notes ≡ ends s n.state)
    (sym (never s.processor s.processor refl)) (λ k. sym (never s.processor s.processor refl)) (λ k a. sym (never_in (not (is_halted s.processor))))
    (λ choice active. shutdown_runs app s choice active t ∙ sym (halted_is app s w active choice)
    ∙ ap (λ (b : Bool). not b && is_halted (instruction app s choice).state.processor) (sym (active_goes s.processor active))) e
