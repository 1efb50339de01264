-- A step does an instruction, or it leaves all tasks, their line and the current task as they are.
use Rattle.std.proofs.Common.{◌∙◌, ◌≡◌, ◌⊎◌, Bool, true, false, refl, sym, ap, subst, Some, None, inl, inr}
use Rattle.std.specs.declared.option.Option.{Option}
use Rattle.osek_values.specs.declared.{event.Event.{Event, TheVariants.{Run, Irq, Tick}}, numbers.SourceNo.{SourceNo}}
use Rattle.osek_standard.specs.declared.{app.App.{App}, state.{State.{State}, Processor.{Processor}}}
use Rattle.osek_standard.specs.{States.{task_of}, Dispatch.{Stepped, instruction, silent}, Outcomes.{Mark, Silent, Arrived, Did, arrived_or, did, shown_by, shows}, Arrivals.{arrival}, Kernel.{entered_or, run_by, step}, Well.{IsActive}}
use Rattle.osek_standard.specs.declared.state.Processor.TheVariants as processor
use Rattle.kernel_guarantees.specs.Scheduling.{DoesInstruction}

-- the step shows an instruction
abbrev pub is_did : Mark → Bool
is_did Silent = false
is_did Arrived = false
is_did (Did does x) = true

pub record IsQuiet (app : App) (s : State) (e : Event) (n : State) : Type 0 where
  pub tasks : n.tasks ≡ s.tasks
  pub line : n.line ≡ s.line
  pub current : task_of n.processor ≡ task_of s.processor
  pub shown : is_did (shows app s e) ≡ false

module _ (app : App) (s : State) where
  pub record IsInstructed (e : Event) (n : State) : Type 0 where
    pub does : DoesInstruction app s e
    pub is : n ≡ (instruction app s does.choice).state
    pub shown : shows app s e ≡ did app s does.choice

  -- and this mark
  abbrev GoesAs : Event → Stepped → Mark → Type 0
  GoesAs e n m = shows app s e ≡ m → IsQuiet app s e n.state ⊎ IsInstructed e n.state

  as_before : (e : Event) → GoesAs e (silent s) Silent
  as_before e shown = inl (record { tasks = refl; line = refl; current = refl; shown = ap is_did shown })

  or_entered : (e : Event) (n : Stepped) (m : Mark) (o : Option SourceNo) → arrival app s ≡ o → (arrival app s ≡ None → GoesAs e n m) → GoesAs e (entered_or (λ a. a) app s n o) (arrived_or m o)
  or_entered e n m None is h shown = h is shown
  or_entered e n m (Some k) is h shown = inl (record { tasks = refl; line = refl; current = refl; shown = ap is_did shown })

  instructed : (choice : Bool) → IsActive s.processor → arrival app s ≡ None → GoesAs (Run choice) (instruction app s choice) (did app s choice)
  instructed choice active none shown = inr (record { does = record { choice = choice; event = refl; active = active; none = none }; is = refl; shown = shown })

  run_goes : (choice : Bool) (p : Processor) → s.processor ≡ p → GoesAs (Run choice) (run_by (λ a. a) app s (instruction app s choice) p) (shown_by app s choice p)
  run_goes choice processor.Halted e = as_before (Run choice)
  run_goes choice processor.Idle e = or_entered (Run choice) (silent s) Silent (arrival app s) refl (λ _. as_before (Run choice))
  run_goes choice (processor.Running t) e = or_entered (Run choice) (instruction app s choice) (did app s choice) (arrival app s) refl (instructed choice (subst IsActive (sym e) tt))
  run_goes choice (processor.Interrupted k over) e = or_entered (Run choice) (instruction app s choice) (did app s choice) (arrival app s) refl (instructed choice (subst IsActive (sym e) tt))

  pub step_goes_by : (e : Event) → IsQuiet app s e (step app s e).state ⊎ IsInstructed e (step app s e).state
  step_goes_by (Run choice) = run_goes choice s.processor refl refl
  step_goes_by (Irq i) = inl (record { tasks = refl; line = refl; current = refl; shown = refl })
  step_goes_by (Tick c) = inl (record { tasks = refl; line = refl; current = refl; shown = refl })

  -- a step that does an instruction is it
  pub does_is : (e : Event) (i : DoesInstruction app s e) → (step app s e).state ≡ (instruction app s i.choice).state
  does_is e i = ap (λ (a : Event). (step app s a).state) i.event ∙ by s.processor refl where
    by : (p : Processor) → s.processor ≡ p → (run_by (λ n. n) app s (instruction app s i.choice) p).state ≡ (instruction app s i.choice).state
    by processor.Halted e = absurd (subst IsActive e i.active)
    by processor.Idle e = absurd (subst IsActive e i.active)
    by (processor.Running t) e = ap (λ (o : Option SourceNo). (entered_or (λ n. n) app s (instruction app s i.choice) o).state) i.none
    by (processor.Interrupted k over) e = ap (λ (o : Option SourceNo). (entered_or (λ n. n) app s (instruction app s i.choice) o).state) i.none
