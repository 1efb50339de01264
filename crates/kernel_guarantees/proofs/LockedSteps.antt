-- What a step does at a locked block, and what keeps an interrupt waiting that came.
use Rattle.std.proofs.Common.{◌≡◌, ◌⊎◌, ℕ, ◌+◌, ◌<◌, Bool, true, false, nat_lt, refl, sym, subst, ap, ◌∙◌, inl, inr, Some, None}
use Rattle.std.proofs.lemmas.Bool.{cases_Bool, false≢true}
use Rattle.std.specs.declared.option.Option.{Option}
use Rattle.osek_values.specs.declared.{event.Event.{Event, TheVariants.{Run}}, numbers.{SourceNo.{SourceNo}}, status.Ask.{Ask}}
use Rattle.osek_values.specs.declared.status.Ask.TheVariants as ask
use Rattle.osek_standard.specs.declared.{app.App.{App}, block.{Block.{Block}, Kind.{Kind}}, state.{State.{State}, Processor.{Processor}}, task_state.Place.{Place}}
use Rattle.osek_standard.specs.{Apps.{source_priority, the_block}, States.{caller, here, is_latched}, Levels.{level}}
use Rattle.osek_standard.specs.{Arrivals.{arrival, entered, takes_none_by}, Services.{Answer}, Effects.{Effect, effect, effect_at, effect_by, place_at}, Kernel.{run_by, step}, Outcomes.{IsArrivalStep}, Well.{IsActive}}
use Rattle.osek_standard.specs.Dispatch.{Stepped, instruction, outcome_by, settled, silent}
use Rattle.osek_standard.specs.declared.block.Kind.TheVariants as kind
use Rattle.osek_standard.specs.declared.state.Processor.TheVariants as processor
use Rattle.osek_standard.proofs.{ArrivalLaws.{arrival_is, no_arrival}, Callers.{moved_processor}}
use Rattle.kernel_guarantees.specs.{Conditions.{HasQuietLocks, is_quiet}, Locks.{is_locked_at}, Reached.{IsReached}, Scheduling.{kind_at}}
use Rattle.kernel_guarantees.proofs.{Outcomes.{kept_processor}, Reaching.{step_has, step_is_reached}, Serving.{asks_no, either_by}}
use Rattle.kernel_guarantees.proofs.CallNames as call

-- the effect of an instruction is that of the kind of its block
pub effect_is : (app : App) (s : State) (choice : Bool) → IsActive s.processor → effect app s choice ≡ effect_at app s choice (here s) (the_block app (here s).block.0) (kind_at app s)
unfolding effect
effect_is app s choice active = by s.processor active where
  by : (p : Processor) → IsActive p → effect_by app s choice p ≡ effect_at app s choice (here s) (the_block app (here s).block.0) (kind_at app s)
  by processor.Halted h = absurd h
  by processor.Idle h = absurd h
  by (processor.Running t) h = refl
  by (processor.Interrupted k over) h = refl

-- so it is that of a kind which the block is of
pub effect_of : (app : App) (s : State) (choice : Bool) → IsActive s.processor → (k : Kind) → kind_at app s ≡ k → effect app s choice ≡ effect_at app s choice (here s) (the_block app (here s).block.0) k
effect_of app s choice active k is = effect_is app s choice active ∙ ap (λ (l : Kind). effect_at app s choice (here s) (the_block app (here s).block.0) l) is

module _ (app : App) (s : State) where
  abbrev StaysWith : Effect → Type 0
  StaysWith e = (e.state.processor ≡ s.processor) × (e.ask ≡ ask.No)

  quiet_stays : (choice : Bool) (p : Place) (b : Block) (k : Kind) → is_quiet k ≡ true → StaysWith (effect_at app s choice p b k)
  quiet_stays choice p b (kind.Work n) q = either_by (λ (a : Answer). (a.state.processor ≡ s.processor) × (a.ask ≡ ask.No)) (nat_lt (p.offset + 1) n) _ _
      (λ _. (moved_processor s (place_at p.block (p.offset + 1)) s.processor, refl)) (λ _. (moved_processor s (place_at b.next 0) s.processor, refl))
  quiet_stays true p b (kind.Choice o) q = (moved_processor s (place_at b.next 0) s.processor, refl)
  quiet_stays false p b (kind.Choice o) q = (moved_processor s (place_at o 0) s.processor, refl)
  quiet_stays choice p b kind.Loop q = (moved_processor s (place_at b.next 0) s.processor, asks_no app (caller s.processor) kind.Loop)
  quiet_stays choice p b (kind.Call (call.Lock l)) q = (moved_processor s (place_at b.next 0) s.processor, asks_no app (caller s.processor) (kind.Call (call.Lock l)))
  quiet_stays choice p b k q = absurd (false≢true q)

  settled_stays : (e : Effect) → StaysWith e → (settled app e.state (outcome_by app e.state e.ask)).processor ≡ s.processor
  settled_stays e h = subst (λ (a : Ask). (settled app e.state (outcome_by app e.state a)).processor ≡ s.processor) (sym h.1) (kept_processor app e.state e.state.processor ∙ h.0)

  instruction_stays : (choice : Bool) → IsActive s.processor → is_quiet (kind_at app s) ≡ true → (instruction app s choice).state.processor ≡ s.processor
  unfolding instruction
  instruction_stays choice active q =
      settled_stays (effect app s choice) (subst StaysWith (sym (effect_is app s choice active)) (quiet_stays choice (here s) (the_block app (here s).block.0) (kind_at app s) q))

  locked_takes_none : (p : Processor) → IsActive p → is_locked_at app (here s) ≡ true → takes_none_by app s p ≡ true
  locked_takes_none processor.Halted h e = absurd h
  locked_takes_none processor.Idle h e = absurd h
  locked_takes_none (processor.Running t) h e = e
  locked_takes_none (processor.Interrupted k over) h e = e

  pub lock_stays : HasQuietLocks app → IsActive s.processor → is_locked_at app (here s) ≡ true → (e : Event) → (step app s e).state.processor ≡ s.processor
  lock_stays quiet active locked e = step_has app s (λ r. r.processor ≡ s.processor) refl (λ k. refl)
      (λ k a. absurd (false≢true (sym (arrival_is app s k a).allowed ∙ locked_takes_none s.processor active locked)))
      (λ choice _. instruction_stays choice active (quiet (here s).block.0 locked)) e

  pub begins_unlocked : (k : SourceNo) → IsActive s.processor → arrival app s ≡ Some k → is_locked_at app (here s) ≡ false
  begins_unlocked k active a = elim (cases_Bool (is_locked_at app (here s))) [
    | inl locked ↦ absurd (false≢true (sym (arrival_is app s k a).allowed ∙ locked_takes_none s.processor active locked))
    | inr free ↦ free
  ]

  -- where a routine comes to begin, the step is its beginning
  begins : (choice : Bool) (k : SourceNo) → arrival app s ≡ Some k → (p : Processor) → takes_none_by app s p ≡ false → run_by (λ m. m) app s (instruction app s choice) p ≡ silent (entered app s k)
  begins choice k a processor.Halted f = absurd (false≢true (sym f))
  begins choice k a processor.Idle f = rw a refl
  begins choice k a (processor.Running t) f = rw a refl
  begins choice k a (processor.Interrupted l over) f = rw a refl

  pub arrival_steps : (choice : Bool) (k : SourceNo) → arrival app s ≡ Some k → IsArrivalStep app s (Run choice)
  arrival_steps choice k a = record { source = k; arrives = a; steps = begins choice k a s.processor (arrival_is app s k a).allowed }

  pub entered_is_reached : (k : SourceNo) → IsReached app s → arrival app s ≡ Some k → IsReached app (entered app s k)
  entered_is_reached k reached a = subst (IsReached app) (ap (λ (x : Stepped). x.state) (begins true k a s.processor (arrival_is app s k a).allowed)) (step_is_reached app s (Run true) reached)

  abbrev HeldOff : ℕ → Type 0
  HeldOff k = (is_locked_at app (here s) ≡ true) ⊎ (source_priority app k < level app s)

  locked_where_none : (p : Processor) → s.processor ≡ p → (p ≡ processor.Halted → ⊥) → takes_none_by app s p ≡ true → is_locked_at app (here s) ≡ true
  locked_where_none processor.Halted e on f = absurd (on refl)
  locked_where_none processor.Idle e on f = absurd (false≢true f)
  locked_where_none (processor.Running t) e on f = f
  locked_where_none (processor.Interrupted k over) e on f = f

  held_by : (o : Option SourceNo) → arrival app s ≡ o → (choice : Bool) (k : ℕ) → (s.processor ≡ processor.Halted → ⊥) → is_latched s k ≡ true → IsArrivalStep app s (Run choice) ⊎ HeldOff k
  held_by (Some j) a choice k on came = inl (arrival_steps choice j a)
  held_by None a choice k on came = inr (elim (no_arrival app s a) [
    | inl none ↦ inl (locked_where_none s.processor refl on none)
    | inr below ↦ inr (below k came)
  ])

  pub held_off : (choice : Bool) (k : ℕ) → (s.processor ≡ processor.Halted → ⊥) → is_latched s k ≡ true → IsArrivalStep app s (Run choice) ⊎ HeldOff k
  held_off choice k on came = held_by (arrival app s) refl choice k on came
