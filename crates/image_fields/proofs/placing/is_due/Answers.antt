use Rattle.std.proofs.Common.{◌∙◌, sym, ap, List, arith}
use Rattle.oil_system.specs.declared.objects.Alarm.{Alarm}
use Rattle.image_fields.specs.BlockReading.{is_due_in, is_due}
use Rattle.image_fields.proofs.Due.{all_stops, all_goes_on, all_ends}
use Rattle.image_fields.proofs.placing.is_due.Goals as goal

pub returns-then-not-is_due_in : goal.returns-then-not-is_due_in
returns-then-not-is_due_in c =
    let same = ap (λ (xs : List Alarm). is_due_in xs c.args.block c.args.alarm (c.loop-number.number, c.at-counter.result.now)) (sym c.as_slice.ensures) in
    all_stops (is_due_in c.args.tables.now.alarms c.args.block c.args.alarm) c.args.tables.now.counters (is_due c.args.tables.now c.args.block c.args.alarm) c.loop-number.number
    c.at-counter.result.now (omega arith) c.at-counter.ensures.item (same ∙ sym c.is_due_in.ensures ∙ c.if-not-is_due_in.true) c.loop-number.invariant

pub loop-number-preserved : goal.loop-number-preserved
loop-number-preserved c =
    let same = ap (λ (xs : List Alarm). is_due_in xs c.args.block c.args.alarm (c.loop-number.number, c.at-counter.result.now)) (sym c.as_slice.ensures) in
    all_goes_on (is_due_in c.args.tables.now.alarms c.args.block c.args.alarm) c.args.tables.now.counters (is_due c.args.tables.now c.args.block c.args.alarm) c.loop-number.number
    c.at-counter.result.now (omega arith) c.at-counter.ensures.item (same ∙ sym c.is_due_in.ensures ∙ c.if-not-is_due_in.false) c.loop-number.invariant

pub returns : goal.returns
returns c = all_ends (is_due_in c.args.tables.now.alarms c.args.block c.args.alarm) c.args.tables.now.counters (is_due c.args.tables.now c.args.block c.args.alarm) c.loop-number.number (omega arith) c.loop-number.invariant
