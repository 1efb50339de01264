-- what a task of a well-formed state has
use Rattle.std.proofs.Common.{subst}
use Rattle.osek_standard.specs.{declared.task_state.TaskState.{TaskState}, Well.{IsActivityOf}}
use Rattle.trace_text.proofs.trace_line.put_task.Goals as goal

pub put_occupied-requires-clause-right : goal.put_occupied-requires-clause-right
put_occupied-requires-clause-right c =
    subst (λ (x : TaskState). IsActivityOf c.args.app.now c.args.task.0 x.activity) c.task-task_state.ensures (c.requires.well.tasks c.args.task.0 c.requires.known).activity
