use Rattle.std.proofs.Common.{rules, ◌≡◌, false, sym, subst}
use Rattle.osek_standard.specs.declared.point.Point.{Point}
use Rattle.osek_standard.specs.declared.point.Point.TheVariants as point
use Rattle.osek_standard.specs.Apps.{the_block}
use Rattle.flow_model.specs.declared.runner.Runner.TheVariants as runner
use Rattle.flow_model.specs.Runners.{Executes}
use Rattle.flow_exits.specs.Arrivals.{AreArrivals}
use Rattle.flow_exits.proofs.Arriving.{idle_arrivals, routine_arrivals, task_arrivals}
use Rattle.flow_exits.proofs.beginning.arrivals.Goals as goal

pub returns-in_ok-rules-in-Idle : goal.returns-in_ok-rules-in-Idle
returns-in_ok-rules-in-Idle c =
    subst (λ (p : Point). AreArrivals c.args.app.now p c.in_ok-rules-in-Idle.rules) (sym c.in-Idle.is)
    (subst (AreArrivals c.args.app.now point.Idle) (sym c.in_ok-rules-in-Idle.ensures) (idle_arrivals c.args.app.now))

pub returns-in_ok-rules-in-Some-Task : goal.returns-in_ok-rules-in-Some-Task
returns-in_ok-rules-in-Some-Task c =
    let app = c.args.app.now in
    let b = c.in-Task.block in
    let t = c.in-Some-Task.task in
    let runs : Executes app (point.Task b) (runner.Task t) = search rules in
    let free : (the_block app b.0).locked ≡ false = search rules in
    subst (λ (p : Point). AreArrivals c.args.app.now p c.in_ok-rules-in-Some-Task.rules) (sym c.in-Task.is)
    (subst (AreArrivals app (point.Task b)) (sym c.in_ok-rules-in-Some-Task.ensures) (task_arrivals app b t free runs.owns.0 runs.owns.1))

pub returns-in_ok-rules-in-Some-Routine-executing : goal.returns-in_ok-rules-in-Some-Routine-executing
returns-in_ok-rules-in-Some-Routine-executing c =
    let app = c.args.app.now in
    let b = c.in-Routine.block in
    let over = c.in-Routine.over in
    let j = c.in-Some-Routine-executing.source in
    let found = c.in-Some-Routine-executing in
    let runs : Executes app (point.Routine b over) (runner.Routine j found.field-0-1 found.field-0-2) = search rules in
    let free : (the_block app b.0).locked ≡ false = search rules in
    subst (λ (p : Point). AreArrivals c.args.app.now p c.in_ok-rules-in-Some-Routine-executing.rules) (sym c.in-Routine.is)
    (subst (AreArrivals app (point.Routine b over)) (sym c.in_ok-rules-in-Some-Routine-executing.ensures) (routine_arrivals app b over j free runs.owns.known runs.owns.own))
