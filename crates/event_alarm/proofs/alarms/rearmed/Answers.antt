-- a cyclic alarm expires a cycle later
use Rattle.std.proofs.Common.{◌≢◌, arith, rules}
use Rattle.event_alarm.proofs.alarms.rearmed.Goals as goal

pub returns : goal.returns
returns c =
    let cyclic : c.args.cycle ≢ 0 = omega arith in
    search rules
