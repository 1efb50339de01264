use Rattle.std.proofs.Common.{◌≡◌, ◌++◌, take}
use Rattle.std.specs.List.{flat_map}
use Rattle.image_codec.specs.Spelling.{counter_bytes}
use Rattle.image_codec.proofs.encoding.put_counters.Given as goal

abbrev pub invariant-loop-counter : goal.invariant-loop-counter
invariant-loop-counter l = l.out.items ≡ l.fn.out.items ++ flat_map counter_bytes (take l.counter-index l.counters)
