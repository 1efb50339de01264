use Rattle.std.proofs.Common.{sym}
use Rattle.trace_text.proofs.PlainPoints.{isr_block, counter_block}
use Rattle.trace_text.proofs.point_words.is_routine_block.Goals as goal

pub returns-in-Some : goal.returns-in-Some
returns-in-Some c = λ x is known. isr_block c.args.app.now c.in-Some.field-0 c.args.block x (sym c.in-Some.ensures) known

pub returns-in-Some-counter_with : goal.returns-in-Some-counter_with
returns-in-Some-counter_with c =
    λ x is known. counter_block c.args.app.now c.in-Some-counter_with.field-0 c.args.block x (sym c.in-Some-counter_with.ensures) known
