-- Events on short lines: a text of them has no fault.
use Rattle.std.proofs.Common.{◌≡◌, ℕ, ◌+◌, ◌*◌, ◌<◌, ◌≤◌, List, [], ◌∷◌, ◌++◌, length, codes, None, ap, arith}
use Rattle.std.specs.List.{AllByRecursion}
use Rattle.std.proofs.lemmas.List.{length-append, Elements.{All-from_recursion}}
use Rattle.osek_values.specs.{Numbers.{isr_no, counter_no}, declared.event.Event.{Event, TheVariants.{Irq, Tick}}}
use Rattle.osek_standard.specs.{declared.app.App.{App}, Apps.{the_isr, the_counter, IsDeclared}}
use Rattle.trace_text.specs.{EventGrammar.{event_line, event_text}, EventText.{Reading, read_text}}
use Rattle.trace_text.proofs.TextLaws.{reads_back}
use Rattle.generated_texts.proofs.Rows.{AllFrom}

-- an application whose first ISR is I and whose first counter is C
pub record HasSources (app : App) : Type 0 where
  pub isr : (the_isr app 0).name ≡ codes "I"
  pub counter : (the_counter app 0).name ≡ codes "C"
  pub some_isr : 0 < length app.isrs
  pub some_counter : 0 < length app.counters

-- declared, and on a short line
pub record IsShort (app : App) (e : Event) : Type 0 where
  pub known : IsDeclared app e
  pub size : length (event_line app e) ≤ 6

pub irq_is_short : (app : App) → HasSources app → IsShort app (Irq (isr_no 0))
irq_is_short app has = record { known = has.some_isr; size = omega (arith, ap (λ (n : List ℕ). length n) has.isr) }

pub tick_is_short : (app : App) → HasSources app → IsShort app (Tick (counter_no 0))
tick_is_short app has = record { known = has.some_counter; size = omega (arith, ap (λ (n : List ℕ). length n) has.counter) }

module _ (app : App) where
  all_known : (i : ℕ) (es : List Event) → AllFrom (λ _. IsShort app) i es → AllByRecursion (IsDeclared app) es
  all_known i [] are = tt
  all_known i (e ∷ es) are = (are.0.known, all_known (i + 1) es are.1)

  text_size : (i : ℕ) (es : List Event) → AllFrom (λ _. IsShort app) i es → length (event_text app es) ≤ 7 * length es
  text_size i [] are = omega arith
  text_size i (e ∷ es) are =
      let rest = text_size (i + 1) es are.1 in
      let size = are.0.size in
      omega (arith, length-append (event_line app e ++ 10 ∷ []) (event_text app es), length-append (event_line app e) (10 ∷ []), rest, size)

  pub short_events_have_no_fault : (es : List Event) → length es ≤ 16000 → AllFrom (λ _. IsShort app) 0 es → (read_text app (event_text app es)).fault ≡ None
  short_events_have_no_fault es few are =
      ap (λ (r : Reading). r.fault) (reads_back app es (All-from_recursion (IsDeclared app) es (all_known 0 es are)) (omega (arith, text_size 0 es are, few)))
