use Rattle.std.proofs.Common.{◌≡◌, drop}
use Rattle.task_code.specs.{Faults.{wrong_works_in}, FirstLines.{first_line}}
use Rattle.task_code.proofs.works.wrong_work_in.Given as goal

abbrev pub invariant-loop-body : goal.invariant-loop-body
invariant-loop-body l = first_line (wrong_works_in (drop l.body-index l.bodies)) ≡ first_line (wrong_works_in l.bodies)
