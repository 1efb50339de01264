-- the state is the row's, and the row keeps it well-formed
use Rattle.std.proofs.Common.{◌≡◌, sym, subst, rules}
use Rattle.osek_standard.specs.{States.{with_task, caller}, Services.{clear_event}, Well.{Well}}
use Rattle.osek_standard.proofs.{Callers.{calls, known_caller}, EventKeeps.{clear_event_keeps}}
use Rattle.event_alarm.proofs.events.clear_event.Goals as goal

pub returns-clause-well : goal.returns-clause-well
unfolding clear_event
returns-clause-well c =
    let app = c.args.app.now in
    let s = c.args.state.now in
    let k = caller s.processor in
    let m = c.args.mask.0 in
    let row : with_task s c.in-Task.task.0 (record { activity = c.task_mut-own.result.now.activity; events = c.without-own.result }) ≡ (clear_event app s k m).state = search rules in
    subst (Well app) (sym row) (clear_event_keeps app s k m c.requires.well (known_caller app s k (calls app s c.requires.well)))
