use Rattle.std.proofs.Common.{rules, ◌≡◌, false, Some, None}
use Rattle.osek_standard.specs.declared.point.Point.TheVariants as point
use Rattle.osek_standard.specs.Apps.{the_block}
use Rattle.flow_model.specs.declared.runner.Runner.TheVariants as runner
use Rattle.flow_model.specs.Runners.{Executes}
use Rattle.flow_exits.proofs.Arriving.{idle_arrivals, routine_arrivals, task_arrivals}
use Rattle.point_exits.proofs.KnownArrivals.{arrivals_at}
use Rattle.point_exits.proofs.arrivals.Arrivals.find.Goals as goal

pub returns-in_ok-place-in-Idle-clause-found : goal.returns-in_ok-place-in-Idle-clause-found
returns-in_ok-place-in-Idle-clause-found c =
    let found = c.in_ok-place-in-Idle.ensures in
    arrivals_at c.args.app.now c.args.point point.Idle None None _ _ c.in-Idle.is found.known found.found (idle_arrivals c.args.app.now)

pub returns-in_ok-place-in-Some-Task-clause-found : goal.returns-in_ok-place-in-Some-Task-clause-found
returns-in_ok-place-in-Some-Task-clause-found c =
    let app = c.args.app.now in
    let b = c.in-Task.block in
    let t = c.in-Some-Task.task in
    let runs : Executes app (point.Task b) (runner.Task t) = search rules in
    let free : (the_block app b.0).locked ≡ false = search rules in
    let found = c.in_ok-place-in-Some-Task.ensures in
    arrivals_at app c.args.point (point.Task b) (Some t) None _ _ c.in-Task.is found.known found.found (task_arrivals app b t free runs.owns.0 runs.owns.1)

pub returns-in_ok-place-in-Some-Routine-executing-clause-found : goal.returns-in_ok-place-in-Some-Routine-executing-clause-found
returns-in_ok-place-in-Some-Routine-executing-clause-found c =
    let app = c.args.app.now in
    let b = c.in-Routine.block in
    let over = c.in-Routine.over in
    let k = c.in-Some-Routine-executing.source in
    let ran = c.in-Some-Routine-executing in
    let runs : Executes app (point.Routine b over) (runner.Routine k ran.field-0-1 ran.field-0-2) = search rules in
    let free : (the_block app b.0).locked ≡ false = search rules in
    let found = c.in_ok-place-in-Some-Routine-executing.ensures in
    arrivals_at app c.args.point (point.Routine b over) over (Some k) _ _ c.in-Routine.is found.known found.found (routine_arrivals app b over k free runs.owns.known runs.owns.own)
