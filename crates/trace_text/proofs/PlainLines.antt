-- A line that spells a declared source with no blank more than it needs says its event.
use Rattle.std.proofs.Common.{◌≡◌, ℕ, List, ◌++◌, Ok, Some, subst}
use Rattle.std.specs.{Prelude.{codes}, Str.{bytes_eq}}
use Rattle.std.proofs.lemmas.List.Quantifiers.{position-Some}
use Rattle.osek_values.specs.{declared.event.Event.TheVariants.{Irq, Tick}, Numbers.{isr_no, counter_no}}
use Rattle.osek_standard.specs.{declared.{app.App.{App}, objects.{Isr.{Isr}, Counter.{Counter}}}, Apps.{the_isr, the_counter, no_isr, no_counter}}
use Rattle.trace_text.specs.{EventWords.{isr_named, counter_named, read_line}, EventGrammar.{event_line}}
use Rattle.trace_text.proofs.{EventLaws.{read_as_said, same_bytes}, TextLaws.{says}}

pub irq_line : (app : App) (name : List ℕ) (k : ℕ) → isr_named app name ≡ Some k → read_line app (codes "irq " ++ name) ≡ Ok (Some (Irq (isr_no k)))
irq_line app name k e =
    let at = position-Some (λ (x : Isr). bytes_eq x.name name) app.isrs k no_isr e in
    let same : (the_isr app k).name ≡ name = same_bytes (the_isr app k).name name at.1 in
    subst (λ (n : List ℕ). read_line app (codes "irq " ++ n) ≡ Ok (Some (Irq (isr_no k)))) same
    (read_as_said app (event_line app (Irq (isr_no k))) (Irq (isr_no k)) (says app (Irq (isr_no k)) at.0))

pub tick_line : (app : App) (name : List ℕ) (k : ℕ) → counter_named app name ≡ Some k → read_line app (codes "tick " ++ name) ≡ Ok (Some (Tick (counter_no k)))
tick_line app name k e =
    let at = position-Some (λ (x : Counter). bytes_eq x.name name) app.counters k no_counter e in
    let same : (the_counter app k).name ≡ name = same_bytes (the_counter app k).name name at.1 in
    subst (λ (n : List ℕ). read_line app (codes "tick " ++ n) ≡ Ok (Some (Tick (counter_no k)))) same
    (read_as_said app (event_line app (Tick (counter_no k))) (Tick (counter_no k)) (says app (Tick (counter_no k)) at.0))
