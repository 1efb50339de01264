-- at task level no routine is in
use Rattle.std.proofs.Common.{◌≡◌, List, ◌++◌, ℕ, take, false, sym, ap, ◌∙◌, append-nil}
use Rattle.osek_standard.specs.States.{is_interrupted}
use Rattle.osek_standard.proofs.WellLaws.{out_at_task_level}
use Rattle.trace_text.proofs.RoutineTexts.{no_routine}
use Rattle.trace_text.proofs.trace_line.put_nest.Goals as goal

pub returns-then-not-is_interrupted-clause-text : goal.returns-then-not-is_interrupted-clause-text
returns-then-not-is_interrupted-clause-text c =
    let app = c.args.app.now in
    let s = c.args.state.now in
    let level : is_interrupted s.processor ≡ false = sym c.if-not-is_interrupted.ensures in
    sym (append-nil (take c.args.at c.args.buf.now))
    ∙ ap (λ (l : List ℕ). take c.args.at c.args.buf.now ++ l) (sym (no_routine app s (out_at_task_level app s s.processor c.requires.well.processor level)))
