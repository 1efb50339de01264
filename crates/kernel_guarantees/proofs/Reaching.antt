-- What the start has and each step keeps, each state has that a run comes to.
use Rattle.std.proofs.Common.{◌≡◌, ℕ, ◌<◌, Bool, true, List, [], ◌∷◌, ◌++◌, length, refl, sym, ◌∙◌, ap, subst, All, Some, None}
use Rattle.std.proofs.lemmas.List.Elements.{All-from_recursion}
use Rattle.std.specs.{List.{AllByRecursion}, declared.option.Option.{Option}}
use Rattle.osek_values.specs.declared.{event.Event.{Event, TheVariants.{Run, Irq, Tick}}, numbers.{ModeNo.{ModeNo}, SourceNo.{SourceNo}}}
use Rattle.osek_standard.specs.declared.{app.App.{App}, state.{State.{State}, Processor.{Processor}}}
use Rattle.osek_standard.specs.{States.{with_latch}, Dispatch.{Stepped, instruction}, Arrivals.{arrival, entered}, Kernel.{entered_or, run, run_by, start, step, steps}, Well.{IsActive, Well}}
use Rattle.osek_standard.specs.declared.state.Processor.TheVariants as processor
use Rattle.osek_standard.proofs.StepKeeps.{start_is_well, step_keeps}
use Rattle.kernel_guarantees.specs.Reached.{IsReached, after}

-- a step latches a source, begins a routine, or is one instruction
module _ (app : App) (s : State) (R : State → Type 0) (stays : R s) (latches : (k : ℕ) → R (with_latch s k true)) (enters : (k : SourceNo) → arrival app s ≡ Some k → R (entered app s k))
    (instructs : (choice : Bool) → IsActive s.processor → R (instruction app s choice).state) where
  or_entered : (n : Stepped) (o : Option SourceNo) → R n.state → arrival app s ≡ o → R (entered_or (λ m. m) app s n o).state
  or_entered n None h e = h
  or_entered n (Some j) h e = enters j e

  run_has : (choice : Bool) (p : Processor) → s.processor ≡ p → R (run_by (λ m. m) app s (instruction app s choice) p).state
  run_has choice processor.Halted e = stays
  run_has choice processor.Idle e = or_entered _ (arrival app s) stays refl
  run_has choice (processor.Running t) e = or_entered _ (arrival app s) (instructs choice (subst IsActive (sym e) tt)) refl
  run_has choice (processor.Interrupted k over) e = or_entered _ (arrival app s) (instructs choice (subst IsActive (sym e) tt)) refl

  pub step_has : (e : Event) → R (step app s e).state
  step_has (Run choice) = run_has choice s.processor refl
  step_has (Irq i) = latches _
  step_has (Tick c) = latches c.0

module _ (app : App) (P : State → Type 0) where
  module _ (latches : (s : State) (k : ℕ) → P s → P (with_latch s k true)) (enters : (s : State) (k : SourceNo) → Well app s → P s → arrival app s ≡ Some k → P (entered app s k))
      (instructs : (s : State) (choice : Bool) → Well app s → IsActive s.processor → P s → P (instruction app s choice).state) where
    pub step_goes : (s : State) (e : Event) → Well app s → P s → P (step app s e).state
    step_goes s e w h = step_has app s P h (λ k. latches s k h) (λ k a. enters s k w h a) (λ choice active. instructs s choice w active h) e

  module _ (starts : (mode : ModeNo) → mode.0 < length app.modes → P (start app mode).state) (goes : (s : State) (e : Event) → Well app s → P s → P (step app s e).state) where
    along : (s : State) (es : List Event) → Well app s → P s → P (after app s es)
    along s [] w h = h
    along s (e ∷ es) w h = along (step app s e).state es (step_keeps app s e w) (goes s e w h)

    pub reached_has : (s : State) → IsReached app s → P s
    reached_has s r = subst P r.comes (along (start app r.mode).state r.events (start_is_well app r.mode r.known) (starts r.mode r.known))

module _ (app : App) where
  pub reached_is_well : (s : State) → IsReached app s → Well app s
  reached_is_well s r = reached_has app (Well app) (start_is_well app) (λ n e w _. step_keeps app n e w) s r

  longer : (s : State) (es : List Event) (e : Event) → after app s (es ++ e ∷ []) ≡ (step app (after app s es) e).state
  longer s [] e = refl
  longer s (d ∷ es) e = longer (step app s d).state es e

  pub step_is_reached : (s : State) (e : Event) → IsReached app s → IsReached app (step app s e).state
  step_is_reached s e r = record {
    mode = r.mode;
    known = r.known;
    events = r.events ++ e ∷ [];
    comes = longer (start app r.mode).state r.events e ∙ ap (λ (n : State). (step app n e).state) r.comes;
  }

  pub after_is_reached : (s : State) (es : List Event) → IsReached app s → IsReached app (after app s es)
  after_is_reached s [] r = r
  after_is_reached s (e ∷ es) r = after_is_reached (step app s e).state es (step_is_reached s e r)

  pub start_is_reached : (mode : ModeNo) → mode.0 < length app.modes → IsReached app (start app mode).state
  start_is_reached mode known = record { mode = mode; known = known; events = []; comes = refl }

  each_step : (s : State) (es : List Event) → IsReached app s → AllByRecursion (λ (x : Stepped). IsReached app x.state) (steps app s es)
  each_step s [] r = tt
  each_step s (e ∷ es) r = let h = step_is_reached s e r in (h, each_step (step app s e).state es h)

  pub run_is_reached : (mode : ModeNo) (es : List Event) → mode.0 < length app.modes → All (λ (x : Stepped). IsReached app x.state) (run app mode es)
  unfolding run
  run_is_reached mode es known = let h = start_is_reached mode known in
      All-from_recursion (λ (x : Stepped). IsReached app x.state) (start app mode ∷ steps app (start app mode).state es) (h, each_step (start app mode).state es h)
