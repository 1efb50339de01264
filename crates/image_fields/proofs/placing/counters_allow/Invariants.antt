use Rattle.std.proofs.Common.{◌≡◌, drop}
use Rattle.std.specs.List.{list_all, enumerate_from}
use Rattle.image_fields.specs.BlockReading.{counter_allows}
use Rattle.image_fields.proofs.placing.counters_allow.Given as goal

abbrev pub invariant-loop-number : goal.invariant-loop-number
invariant-loop-number l =
    list_all (counter_allows l.tables l.block l.kind) (enumerate_from l.number (drop l.number l.tables.counters))
    ≡ list_all (counter_allows l.tables l.block l.kind) (enumerate_from 0 l.tables.counters)
