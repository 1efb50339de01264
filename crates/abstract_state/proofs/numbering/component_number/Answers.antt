use Rattle.std.proofs.Common.{◌≡◌, ◌+◌, length, ap, sym, ◌∙◌, arith}
use Rattle.abstract_state.specs.declared.value.Component.TheVariants as component
use Rattle.abstract_state.specs.Components.{event_start, component_number}
use Rattle.abstract_state.proofs.Numbers.{events_counted}
use Rattle.abstract_state.proofs.numbering.component_number.Goals as goal

pub returns-in-Alarm : goal.returns-in-Alarm
returns-in-Alarm c =
    let app = c.args.app.now in
    let tasks : event_start app c.len-tasks.result ≡ event_start app (length app.tasks) = ap (event_start app) c.len-tasks.ensures in
    let whole = events_counted app in
    let number : c.len-tasks.result + c.event_start-in-Alarm.result + c.in-Alarm.alarm.0 ≡ component_number app (component.Alarm c.in-Alarm.alarm)
    = omega (arith, tasks, whole, c.event_start-in-Alarm.ensures.value, c.len-tasks.ensures) in
    number ∙ ap (component_number app) (sym c.in-Alarm.is)

pub returns-in-Source : goal.returns-in-Source
returns-in-Source c =
    let app = c.args.app.now in
    let tasks : event_start app c.len-tasks.result ≡ event_start app (length app.tasks) = ap (event_start app) c.len-tasks.ensures in
    let whole = events_counted app in
    let number : c.len-tasks.result + c.event_start-in-Source.result + c.len-alarms.result + c.in-Source.source.0 ≡ component_number app (component.Source c.in-Source.source)
    = omega (arith, tasks, whole, c.event_start-in-Source.ensures.value, c.len-tasks.ensures, c.len-alarms.ensures) in
    number ∙ ap (component_number app) (sym c.in-Source.is)
