-- each state is the row's, and the row keeps it well-formed
use Rattle.std.proofs.Common.{◌≡◌, sym, subst, rules, ◌∙◌, ap}
use Rattle.osek_standard.specs.{States.{with_task}, Services.{set_event, Answer}, Well.{Well}, declared.task_state.TaskState.{TaskState}}
use Rattle.osek_standard.proofs.{EventKeeps.{set_event_keeps}, LineRoom.{room_for_waiting}}
use Rattle.event_alarm.proofs.events.set_event.Goals as goal

pub returns-in-Live-clause-well : goal.returns-in-Live-clause-well
unfolding set_event
returns-in-Live-clause-well c =
    let app = c.args.app.now in
    let s = c.args.state.now in
    let t = c.args.task.0 in
    let m = c.args.mask.0 in
    let row : with_task s t (record { activity = c.task_mut-waiter.result.now.activity; events = c.or-waiter.result }) ≡ (set_event app s t m).state = search rules in
    subst (Well app) (sym row) (set_event_keeps app s t m c.requires.well c.requires.known)

pub returns-then-is_empty-2-clause-well : goal.returns-then-is_empty-2-clause-well
unfolding set_event
returns-then-is_empty-2-clause-well c =
    let app = c.args.app.now in
    let s = c.args.state.now in
    let t = c.args.task.0 in
    let m = c.args.mask.0 in
    let row : with_task s t (record { activity = c.task_mut-waiter.result.now.activity; events = c.or-waiter-in-Waiting.result }) ≡ (set_event app s t m).state = search rules in
    subst (Well app) (sym row) (set_event_keeps app s t m c.requires.well c.requires.known)

-- a task that waits has no place in the line
pub push_last-requires : goal.push_last-requires
push_last-requires c =
    room_for_waiting c.args.app.now c.args.state.now c.requires.well c.args.task.0 c.in-Waiting.block c.requires.known
    (ap (λ (x : TaskState). x.activity) c.task_mut-waiter.ensures.value ∙ c.in-Waiting.is)

pub returns-else-is_empty-2-clause-row : goal.returns-else-is_empty-2-clause-row
unfolding set_event
returns-else-is_empty-2-clause-row c = search rules

pub returns-else-is_empty-2-clause-well : goal.returns-else-is_empty-2-clause-well
returns-else-is_empty-2-clause-well c =
    subst (Well c.args.app.now) (ap (λ (x : Answer). x.state) (returns-else-is_empty-2-clause-row c))
    (set_event_keeps c.args.app.now c.args.state.now c.args.task.0 c.args.mask.0 c.requires.well c.requires.known)
