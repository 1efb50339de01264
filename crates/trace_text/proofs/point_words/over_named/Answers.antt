use Rattle.std.proofs.Common.{sym}
use Rattle.trace_text.proofs.PointParts.{a_task, no_task_named}
use Rattle.trace_text.proofs.point_words.over_named.Goals as goal

pub returns-in-None : goal.returns-in-None
returns-in-None c = no_task_named c.args.app.now c.args.name.now (sym c.if-eq.ensures) (sym c.in-None.ensures)

pub returns-in-Some : goal.returns-in-Some
returns-in-Some c = a_task c.args.app.now c.args.name.now c.in-Some.task (sym c.in-Some.ensures)
