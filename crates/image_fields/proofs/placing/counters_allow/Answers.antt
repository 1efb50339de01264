use Rattle.std.proofs.Common.{◌∙◌, sym, arith}
use Rattle.image_fields.specs.BlockReading.{counter_allows, counters_allow}
use Rattle.image_fields.proofs.Due.{all_stops, all_goes_on, all_ends}
use Rattle.image_fields.proofs.placing.counters_allow.Goals as goal

pub returns-then-not-counter_allows : goal.returns-then-not-counter_allows
returns-then-not-counter_allows c =
    all_stops (counter_allows c.args.tables.now c.args.block c.args.kind) c.args.tables.now.counters (counters_allow c.args.tables.now c.args.block c.args.kind) c.loop-number.number
    c.at-counter.result.now (omega arith) c.at-counter.ensures.item (sym c.counter_allows.ensures ∙ c.if-not-counter_allows.true) c.loop-number.invariant

pub loop-number-preserved : goal.loop-number-preserved
loop-number-preserved c =
    all_goes_on (counter_allows c.args.tables.now c.args.block c.args.kind) c.args.tables.now.counters (counters_allow c.args.tables.now c.args.block c.args.kind) c.loop-number.number
    c.at-counter.result.now (omega arith) c.at-counter.ensures.item (sym c.counter_allows.ensures ∙ c.if-not-counter_allows.false) c.loop-number.invariant

pub returns : goal.returns
returns c = all_ends (counter_allows c.args.tables.now c.args.block c.args.kind) c.args.tables.now.counters (counters_allow c.args.tables.now c.args.block c.args.kind) c.loop-number.number (omega arith) c.loop-number.invariant
