-- the event of a verb and its operand
use Rattle.std.proofs.Common.{refl, sym}
use Rattle.trace_text.proofs.event_words.event_of.Goals as goal

pub returns-then-eq-2 : goal.returns-then-eq-2
returns-then-eq-2 c = rw (sym c.if-eq.ensures, sym c.if-eq-2.ensures, sym c.in-Some.ensures) refl
