-- A step does what it shows.
use Rattle.std.proofs.Common.{◌≡◌, Bool, refl, Some, None}
use Rattle.std.specs.declared.option.Option.{Option}
use Rattle.osek_values.specs.declared.{event.Event.{Event, TheVariants.{Run, Irq, Tick}}, numbers.SourceNo.{SourceNo}, status.Status.{Status}}
use Rattle.osek_standard.specs.declared.{app.App.{App}, state.{State.{State}, Processor.{Processor}}}
use Rattle.osek_standard.specs.declared.state.Processor.TheVariants as processor
use Rattle.osek_standard.specs.{Effects.{effect}, Dispatch.{Outcome, outcome, instruction, silent, Stepped}, Arrivals.{arrival, entered}, Kernel.{step, run_by, entered_or}}
use Rattle.osek_standard.specs.Well.{IsActive}
use Rattle.abstract_state.specs.Alike.{IsAlike}
use Rattle.osek_standard.specs.Outcomes.{Mark, Silent, Arrived, Did, did, arrived_or, shown_by, shows, IsInstruction, IsArrivalStep}

abbrev itself : Stepped → Stepped
itself n = n

alike_itself : (s : State) → IsAlike s s
alike_itself s = record { processor = refl; tasks = λ t. refl; events = λ t. refl; alarms = λ a. refl; sources = λ k. refl }

module _ (app : App) (s : State) where
  record Instructs (choice : Bool) (n : Stepped) (o : Outcome) (x : Option Status) : Type 0 where
    same : n ≡ instruction app s choice
    does : outcome app s choice ≡ o
    status : (effect app s choice).notes.status ≡ x

  instructed : (choice : Bool) (a : Option SourceNo) (o : Outcome) (x : Option Status) → arrived_or (did app s choice) a ≡ Did o x → Instructs choice (entered_or itself app s (instruction app s choice) a) o x
  instructed choice None o x e = record { same = refl; does = cc; status = cc }
  instructed choice (Some k) o x e = absurd (cc)

  never_instructed : (a : Option SourceNo) (o : Outcome) (x : Option Status) → arrived_or Silent a ≡ Did o x → ⊥
  never_instructed None o x e = cc
  never_instructed (Some k) o x e = cc

  run_instructs : (choice : Bool) (p : Processor) (o : Outcome) (x : Option Status) → shown_by app s choice p ≡ Did o x → IsActive p × Instructs choice (run_by itself app s (instruction app s choice) p) o x
  run_instructs choice processor.Halted o x e = absurd (cc)
  run_instructs choice processor.Idle o x e = absurd (never_instructed (arrival app s) o x e)
  run_instructs choice (processor.Running t) o x e = (tt, instructed choice (arrival app s) o x e)
  run_instructs choice (processor.Interrupted k over) o x e = (tt, instructed choice (arrival app s) o x e)

  pub shown_instruction : (e : Event) (o : Outcome) (x : Option Status) → shows app s e ≡ Did o x → IsInstruction app s e o x
  shown_instruction (Run choice) o x e =
      let r = run_instructs choice s.processor o x e in
      record { choice = choice; event = refl; active = r.0; steps = r.1.same; does = r.1.does; status = r.1.status }
  shown_instruction (Irq i) o x e = absurd (cc)
  shown_instruction (Tick c) o x e = absurd (cc)

  arrived : (m : Mark) (n : Stepped) (a : Option SourceNo) → (m ≡ Arrived → ⊥) → arrived_or m a ≡ Arrived → (k : SourceNo) × (a ≡ Some k) × (entered_or itself app s n a ≡ silent (entered app s k))
  arrived m n None other e = absurd (other e)
  arrived m n (Some k) other e = (k, refl, refl)

  not_silent : Silent ≡ Arrived → ⊥
  not_silent e = cc

  not_did : (o : Outcome) (x : Option Status) → Did o x ≡ Arrived → ⊥
  not_did o x e = cc

  run_arrives : (choice : Bool) (p : Processor) → shown_by app s choice p ≡ Arrived → (k : SourceNo) × (arrival app s ≡ Some k) × (run_by itself app s (instruction app s choice) p ≡ silent (entered app s k))
  run_arrives choice processor.Halted e = absurd (cc)
  run_arrives choice processor.Idle e = arrived Silent (silent s) (arrival app s) not_silent e
  run_arrives choice (processor.Running t) e = arrived (did app s choice) (instruction app s choice) (arrival app s) (not_did (outcome app s choice) (effect app s choice).notes.status) e
  run_arrives choice (processor.Interrupted k over) e = arrived (did app s choice) (instruction app s choice) (arrival app s) (not_did (outcome app s choice) (effect app s choice).notes.status) e

  pub shown_arrival : (e : Event) → shows app s e ≡ Arrived → IsArrivalStep app s e
  shown_arrival (Run choice) e = let r = run_arrives choice s.processor e in record { source = r.0; arrives = r.1; steps = r.2 }
  shown_arrival (Irq i) e = absurd (cc)
  shown_arrival (Tick c) e = absurd (cc)

  idle_stays : (a : Option SourceNo) → arrived_or Silent a ≡ Silent → IsAlike s (entered_or itself app s (silent s) a).state
  idle_stays None e = alike_itself s
  idle_stays (Some k) e = absurd (cc)

  never_silent : (m : Mark) (n : Stepped) (a : Option SourceNo) → (m ≡ Silent → ⊥) → arrived_or m a ≡ Silent → ⊥
  never_silent m n None other e = other e
  never_silent m n (Some k) other e = cc

  did_something : (o : Outcome) (x : Option Status) → Did o x ≡ Silent → ⊥
  did_something o x e = cc

  run_stays : (choice : Bool) (p : Processor) → shown_by app s choice p ≡ Silent → IsAlike s (run_by itself app s (instruction app s choice) p).state
  run_stays choice processor.Halted e = alike_itself s
  run_stays choice processor.Idle e = idle_stays (arrival app s) e
  run_stays choice (processor.Running t) e = absurd (never_silent (did app s choice) (instruction app s choice) (arrival app s) (did_something (outcome app s choice) (effect app s choice).notes.status) e)
  run_stays choice (processor.Interrupted k over) e = absurd (never_silent (did app s choice) (instruction app s choice) (arrival app s) (did_something (outcome app s choice) (effect app s choice).notes.status) e)

  -- a step that shows nothing changes nothing that a table keeps
  pub shown_silent : (e : Event) → shows app s e ≡ Silent → IsAlike s (step app s e).state
  shown_silent (Run choice) e = run_stays choice s.processor e
  shown_silent (Irq i) e = record { processor = refl; tasks = λ t. refl; events = λ t. refl; alarms = λ a. refl; sources = λ k. refl }
  shown_silent (Tick c) e = record { processor = refl; tasks = λ t. refl; events = λ t. refl; alarms = λ a. refl; sources = λ k. refl }
