-- An image runs as the kernel where each instruction does, from the states of a set that the kernel doesn't leave.
use Rattle.std.proofs.{Common.{◌≡◌, Bool, false, List, [], ◌∷◌, ◌++◌, length, Option, Some, None, refl, ap, ◌∙◌}, lemmas.List.{append-nil}}
use Rattle.osek_values.specs.declared.{event.Event.{Event, TheVariants.{Run as RunEvent, Irq, Tick}}, numbers.{ModeNo.{ModeNo}, SourceNo.{SourceNo}}}
use Rattle.osek_standard.specs.declared.{app.App.{App}, state.{State.{State}, Processor.{Processor}}}
use Rattle.osek_standard.specs.declared.state.Processor.TheVariants as processor
use Rattle.osek_standard.specs.{Dispatch.{Stepped, silent, instruction}, Arrivals.{arrival}, Kernel.{entered_or, run_by, step, steps, start, run}}
use Rattle.osek_standard.specs.{TraceText.{lines_from, kernel_trace}, Well.{IsActive}}
use Rattle.image_model.specs.{declared.image.Image.{Image}, ImageStep.{instructed, image_step}}
use Rattle.image_model.specs.{ImageTrace.{Run, run_of, and_then, after, image_steps, image_run, trap_text, image_trace}, Laws.{IsKernelsRun}}

abbrev put_in : Stepped → Option Stepped
put_in n = Some n

abbrev itself : Stepped → Stepped
itself n = n

same_idle : (app : App) (s : State) (o : Option SourceNo) → entered_or put_in app s (Some (silent s)) o ≡ Some (entered_or itself app s (silent s) o)
same_idle app s None = refl
same_idle app s (Some k) = refl

module _ (app : App) (s : State) (r : Option Stepped) (n : Stepped) where
  same_entry : (o : Option SourceNo) → r ≡ Some n → entered_or put_in app s r o ≡ Some (entered_or itself app s n o)
  same_entry None same = same
  same_entry (Some k) same = refl

  same_turn : (p : Processor) → (IsActive p → r ≡ Some n) → run_by put_in app s r p ≡ Some (run_by itself app s n p)
  same_turn processor.Halted same = refl
  same_turn processor.Idle same = same_idle app s (arrival app s)
  same_turn (processor.Running t) same = same_entry (arrival app s) (same tt)
  same_turn (processor.Interrupted k over) same = same_entry (arrival app s) (same tt)

module _ (i : Image) (Inside : State → Type 0)
    (same : (s : State) (choice : Bool) → Inside s → IsActive s.processor → instructed i s choice ≡ Some (instruction i.app s choice)) where
  pub same_step : (s : State) (e : Event) → Inside s → image_step i s e ≡ Some (step i.app s e)
  same_step s (RunEvent choice) h = same_turn i.app s (instructed i s choice) (instruction i.app s choice) s.processor (λ active. same s choice h active)
  same_step s (Irq k) h = refl
  same_step s (Tick k) h = refl

  module _ (stays : (s : State) (e : Event) → Inside s → Inside (step i.app s e).state) where
    same_steps : (s : State) (es : List Event) → Inside s → image_steps i s es ≡ run_of (steps i.app s es) false
    same_steps s [] h = refl
    same_steps s (e ∷ es) h =
        ap (λ (o : Option Stepped). after o (λ t. image_steps i t es)) (same_step s e h)
        ∙ ap (and_then (step i.app s e)) (same_steps (step i.app s e).state es (stays s e h))

    same_run : (mode : ModeNo) (es : List Event) → Inside (start i.app mode).state → image_run i mode es ≡ run_of (run i.app mode es) false
    unfolding image_run run
    same_run mode es h = ap (and_then (start i.app mode)) (same_steps (start i.app mode).state es h)

    pub runs_as_kernel : (mode : ModeNo) (es : List Event) → Inside (start i.app mode).state → IsKernelsRun i mode es
    unfolding image_trace kernel_trace
    runs_as_kernel mode es h = record {
      trace = ap (λ (r : Run). lines_from i.app 0 r.steps ++ trap_text r.trapped (length r.steps)) (same_run mode es h) ∙ append-nil (lines_from i.app 0 (run i.app mode es));
      no_trap = ap (λ (r : Run). r.trapped) (same_run mode es h);
    }
