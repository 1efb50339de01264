-- what is written, and the statements that are left, are the whole
use Rattle.std.proofs.Common.{◌≡◌, ◌-◌}
use Rattle.osek_vectors.specs.{Writing.{onto, each_from}, CodeTexts.{statement, statements}}
use Rattle.osek_vectors.proofs.code.put_statements.Given as goal

abbrev pub invariant-loop-statement : goal.invariant-loop-statement
invariant-loop-statement l = onto l.writer (each_from l._statement (4 - l._statement) (λ _. statement l.tasks)) ≡ onto l.initial.writer (statements l.tasks)
