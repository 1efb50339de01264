-- at the alarm's own value a whole round is left
use Rattle.std.proofs.Common.{◌≡◌, ◌+◌, Some, rules}
use Rattle.osek_values.specs.declared.{status.{Status.TheVariants.{Ok}, Ask.TheVariants.{No}}, notes.Value.TheVariants.{Number}}
use Rattle.osek_standard.specs.Services.{get_alarm, answer}
use Rattle.event_alarm.proofs.alarms.get_alarm.Goals as goal

pub returns-then-at-value : goal.returns-then-at-value
unfolding get_alarm
returns-then-at-value c =
    let round : get_alarm c.args.app.now c.args.state.now c.args.alarm.0 ≡ answer c.args.state.now (Some Ok) (Some (Number (c.counter_of.result.now.max + 1))) No = search rules in
    round
