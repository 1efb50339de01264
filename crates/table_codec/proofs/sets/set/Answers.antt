use Rattle.std.proofs.Common.{sym, subst}
use Rattle.abstract_state.specs.declared.value.Component.{Component}
use Rattle.abstract_state.specs.declared.value.Domain.TheVariants as domain
use Rattle.table_codec.specs.Sets.{IsReadSet}
use Rattle.table_codec.proofs.FlagReads.{event_read, alarm_read}
use Rattle.table_codec.proofs.sets.set.Goals as goal

pub returns-in_ok-members-in-Event-clause-ok : goal.returns-in_ok-members-in-Event-clause-ok
returns-in_ok-members-in-Event-clause-ok c =
    let number = c.in_ok-number-in-Event.ensures.ok in
    subst (λ (k : Component). IsReadSet c.args.app.now c.args.point k c.args.reader.now c.flags.new.reader (record { domain = domain.Event; members = c.in_ok-members-in-Event.members })) (sym c.in-Event.is)
    (event_read c.args.app.now c.args.point c.in_ok-number-in-Event.number c.args.reader.now c.flags.new.reader c.in_ok-members-in-Event.members number.0 number.1 _ _ c.in_ok-members-in-Event.ensures)

pub returns-in_ok-members-in-Alarm-clause-ok : goal.returns-in_ok-members-in-Alarm-clause-ok
returns-in_ok-members-in-Alarm-clause-ok c =
    let number = c.in_ok-number-in-Alarm.ensures.ok in
    subst (λ (k : Component). IsReadSet c.args.app.now c.args.point k c.args.reader.now c.flags-in-Alarm.new.reader (record { domain = domain.Alarm; members = c.in_ok-members-in-Alarm.members })) (sym c.in-Alarm.is)
    (alarm_read c.args.app.now c.args.point c.in_ok-number-in-Alarm.number c.args.reader.now c.flags-in-Alarm.new.reader c.in_ok-members-in-Alarm.members number.0 number.1 _ c.in_ok-members-in-Alarm.ensures)
