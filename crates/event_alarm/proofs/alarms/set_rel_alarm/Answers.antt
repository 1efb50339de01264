-- the alarm expires so many ticks on, round the counter, and the state stays well-formed
use Rattle.std.proofs.Common.{◌≡◌, ◌+◌, ◌%◌, sym, subst, rules}
use Rattle.osek_standard.specs.{declared.state.AlarmState.TheVariants.{Armed}, States.{with_alarm}, Services.{set_rel_alarm}, Well.{Well}}
use Rattle.osek_standard.proofs.AlarmKeeps.{set_rel_alarm_keeps}
use Rattle.event_alarm.proofs.alarms.set_rel_alarm.Goals as goal

pub returns-clause-row : goal.returns-clause-row
unfolding set_rel_alarm
returns-clause-row c =
    let at = (c.counter-value.result + c.args.increment) % (c.counter_of.result.now.max + 1) in
    let stored : c.put_alarm.new.self ≡ with_alarm c.args.state.now c.args.alarm.0 (Armed at c.args.cycle) = c.put_alarm.ensures in
    search rules

pub returns-clause-well : goal.returns-clause-well
unfolding set_rel_alarm
returns-clause-well c =
    let app = c.args.app.now in
    let s = c.args.state.now in
    let a = c.args.alarm.0 in
    let at = (c.counter-value.result + c.args.increment) % (c.counter_of.result.now.max + 1) in
    let stored : c.put_alarm.new.self ≡ with_alarm s a (Armed at c.args.cycle) = c.put_alarm.ensures in
    let row : c.put_alarm.new.self ≡ (set_rel_alarm app s a c.args.increment c.args.cycle).state = search rules in
    subst (Well app) (sym row) (set_rel_alarm_keeps app s a c.args.increment c.args.cycle c.requires.well c.requires.known)
