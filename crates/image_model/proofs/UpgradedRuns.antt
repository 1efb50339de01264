-- An image that is upgraded runs as before: its steps read its application and its sites alone.
use Rattle.std.proofs.Common.{◌≡◌, ◌++◌, Bool, List, [], ◌∷◌, length, Option, Some, None, refl, ap, ◌∙◌}
use Rattle.std.specs.Prelude.{option_map, slice_index_or}
use Rattle.osek_values.specs.declared.{event.Event.{Event, TheVariants.{Run as RunEvent, Irq, Tick}}, numbers.ModeNo.{ModeNo}}
use Rattle.osek_standard.specs.{declared.{app.App.{App}, state.State.{State}}, States.{here}, Effects.{effect}, Dispatch.{Stepped, concluded}, Kernel.{run_by, step_with, start}}
use Rattle.osek_standard.specs.TraceText.{lines_from}
use Rattle.image_model.specs.{declared.{site.Site.{Site}, image.Image.{Image}}, ImageStep.{formed_at, instructed, image_step}}
use Rattle.image_model.specs.{ImageTrace.{Run, and_then, after, image_steps, image_run, trap_text, image_trace}, Upgrades.{IsUpgraded}, Laws.{RunsAsBefore}}

abbrev put_in : Stepped → Option Stepped
put_in n = Some n

-- an instruction, of an application and sites
abbrev instructed_of : App → List (Option Site) → State → Bool → Option Stepped
instructed_of app sites s choice =
    let e = effect app s choice in
    option_map (concluded app e) (formed_at app e (slice_index_or sites (here s).block.0 None))

module _ (i j : Image) (u : IsUpgraded i j) where
  same_instruction : (s : State) (choice : Bool) → instructed j s choice ≡ instructed i s choice
  unfolding instructed
  same_instruction s choice =
      ap (λ (a : App). instructed_of a j.sites s choice) u.app ∙ ap (λ (xs : List (Option Site)). instructed_of i.app xs s choice) u.sites

  same_step : (s : State) (e : Event) → image_step j s e ≡ image_step i s e
  same_step s (RunEvent choice) =
      ap (λ (a : App). run_by put_in a s (instructed j s choice) s.processor) u.app
      ∙ ap (λ (r : Option Stepped). run_by put_in i.app s r s.processor) (same_instruction s choice)
  same_step s (Irq k) = ap (λ (a : App). step_with put_in a s (instructed j s) (Irq k)) u.app
  same_step s (Tick k) = ap (λ (a : App). step_with put_in a s (instructed j s) (Tick k)) u.app

  same_after : (o p : Option Stepped) (f g : State → Run) → o ≡ p → ((s : State) → f s ≡ g s) → after o f ≡ after p g
  same_after None None f g e h = refl
  same_after None (Some x) f g e h = absurd (cc)
  same_after (Some x) None f g e h = absurd (cc)
  same_after (Some x) (Some y) f g e h =
      let same : x ≡ y = cc in
      ap (λ (n : Stepped). and_then n (f n.state)) same ∙ ap (and_then y) (h y.state)

  same_steps : (s : State) (es : List Event) → image_steps j s es ≡ image_steps i s es
  same_steps s [] = refl
  same_steps s (e ∷ es) = same_after (image_step j s e) (image_step i s e) (λ t. image_steps j t es) (λ t. image_steps i t es) (same_step s e) (λ t. same_steps t es)

  same_run : (mode : ModeNo) (es : List Event) → image_run j mode es ≡ image_run i mode es
  unfolding image_run
  same_run mode es =
      ap (λ (a : App). and_then (start a mode) (image_steps j (start a mode).state es)) u.app
      ∙ ap (and_then (start i.app mode)) (same_steps (start i.app mode).state es)

  pub runs_as_before : (mode : ModeNo) (es : List Event) → RunsAsBefore i j mode es
  unfolding image_trace
  runs_as_before mode es = record {
    run = same_run mode es;
    trace = ap (λ (a : App). lines_from a 0 (image_run j mode es).steps ++ trap_text (image_run j mode es).trapped (length (image_run j mode es).steps)) u.app
        ∙ ap (λ (r : Run). lines_from i.app 0 r.steps ++ trap_text r.trapped (length r.steps)) (same_run mode es);
  }
