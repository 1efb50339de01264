-- The generator's event text is that of events of the application.
use Rattle.std.proofs.Common.{◌≡◌, ℕ, ◌+◌, ◌*◌, ◌<◌, ◌≤◌, ◌==◌, true, false, zero, suc, List, [], ◌∷◌, ◌++◌, length, codes, decimal, None, refl, sym, ap, ◌∙◌, arith}
use Rattle.std.proofs.lemmas.{Fmt.{decimal_digit}, List.{append-nil}}
use Rattle.osek_values.specs.{Numbers.{isr_no, counter_no}, declared.event.Event.{Event, TheVariants.{Run, Irq, Tick}}}
use Rattle.osek_standard.specs.declared.app.App.{App}
use Rattle.osek_vectors.specs.{Writing.{Text, fixed}, EventLines.{event_line_of_kind, event_line as the_line, event_text as the_text}}
use Rattle.trace_text.specs.{EventGrammar.{event_text}, EventText.{read_text}}
use Rattle.generated_texts.proofs.Drawing.{Spells, Spells-fixed, Spells-draw, Spells-either, Spells-each}
use Rattle.generated_texts.proofs.{EventTexts.{HasSources, IsShort, irq_is_short, tick_is_short, short_events_have_no_fault}, Rows.{each_of, AllFrom}}

module _ (app : App) (has : HasSources app) where
  abbrev before : Event → List Event → List Event
  before e es = e ∷ es

  abbrev Spells-event : Text → Type 0
  Spells-event text = Spells (event_text app) before (IsShort app) text

  a_run : (choice : ℕ) → choice < 2 → Spells-event (fixed (codes "run " ++ decimal choice ++ codes "\n"))
  a_run zero h = Spells-fixed (event_text app) before (IsShort app) _ (Run false) (record { known = tt; size = omega arith })
      (λ rest. ap (λ (ds : List ℕ). (codes "run " ++ ds ++ codes "\n") ++ event_text app rest) (decimal_digit 0 (omega arith)))
  a_run (suc zero) h = Spells-fixed (event_text app) before (IsShort app) _ (Run true) (record { known = tt; size = omega arith })
      (λ rest. ap (λ (ds : List ℕ). (codes "run " ++ ds ++ codes "\n") ++ event_text app rest) (decimal_digit 1 (omega arith)))
  a_run (suc (suc choice)) h = absurd (omega (arith, h))

  an_irq : Spells-event (fixed (codes "irq I\n"))
  an_irq = Spells-fixed (event_text app) before (IsShort app) _ (Irq (isr_no 0)) (irq_is_short app has)
      (λ rest. ap (λ (n : List ℕ). ((codes "irq " ++ n) ++ 10 ∷ []) ++ event_text app rest) (sym has.isr))

  a_tick : Spells-event (fixed (codes "tick C\n"))
  a_tick = Spells-fixed (event_text app) before (IsShort app) _ (Tick (counter_no 0)) (tick_is_short app has)
      (λ rest. ap (λ (n : List ℕ). ((codes "tick " ++ n) ++ 10 ∷ []) ++ event_text app rest) (sym has.counter))

  Spells-line : Spells-event the_line
  Spells-line =
      Spells-draw (event_text app) before (IsShort app) 10 event_line_of_kind (omega arith) (λ kind _.
      Spells-either (event_text app) before (IsShort app) (kind == 0) _ _ an_irq
      (Spells-either (event_text app) before (IsShort app) (kind == 1) _ _ a_tick
      (Spells-draw (event_text app) before (IsShort app) 2 _ (omega arith) a_run)))

  Spells-text : (n : ℕ) → Spells (event_text app) (each_of (λ _. before) 0) (λ (es : List Event). (length es ≡ 1000 * n) × AllFrom (λ _. IsShort app) 0 es) (the_text n)
  Spells-text n = Spells-each (event_text app) (λ _. before) (λ _. IsShort app) (λ _. the_line) (1000 * n) 0 (λ _ _. Spells-line)

  itself : (i : ℕ) (es : List Event) → each_of (λ _. before) i es [] ≡ es
  itself i [] = refl
  itself i (e ∷ es) = ap (before e) (itself (i + 1) es)

  pub events_have_no_fault : (n x : ℕ) → n ≤ 16 → (read_text app (the_text n x).text).fault ≡ None
  events_have_no_fault n x few =
      let (es, good, e) = Spells-text n x in
      let is : (the_text n x).text ≡ event_text app es = sym (append-nil (the_text n x).text) ∙ e [] ∙ ap (event_text app) (itself 0 es) in
      ap (λ (text : List ℕ). (read_text app text).fault) is ∙ short_events_have_no_fault app es (omega (arith, good.0, few)) good.1
