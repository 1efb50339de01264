-- the line of a declared source says its event
use Rattle.std.proofs.Common.{◌≡◌, ℕ, List, Ok, Some, sym, subst}
use Rattle.osek_values.specs.{Numbers.{isr_no, counter_no}, declared.event.Event.TheVariants.{Irq, Tick}}
use Rattle.trace_text.specs.EventWords.{read_line}
use Rattle.trace_text.proofs.PlainLines.{irq_line, tick_line}
use Rattle.trace_text.proofs.event_words.plain_source.Goals as goal

pub returns-in-Some : goal.returns-in-Some
returns-in-Some c =
    let app = c.args.app.now in
    let isr = c.in-Some-isr_of.isr in
    subst (λ (line : List ℕ). read_line app line ≡ Ok (Some (Irq (isr_no isr)))) (sym c.in-Some.ensures) (irq_line app c.in-Some.name.now isr (sym c.in-Some-isr_of.ensures))

pub returns-in-Some-tick_name : goal.returns-in-Some-tick_name
returns-in-Some-tick_name c =
    let app = c.args.app.now in
    let counter = c.in-Some-counter_of.counter in
    subst (λ (line : List ℕ). read_line app line ≡ Ok (Some (Tick (counter_no counter)))) (sym c.in-Some-tick_name.ensures)
    (tick_line app c.in-Some-tick_name.name.now counter (sym c.in-Some-counter_of.ensures))
