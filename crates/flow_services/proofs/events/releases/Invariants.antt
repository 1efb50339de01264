use Rattle.std.proofs.Common.{◌≡◌, ℕ, ◌+◌, map}
use Rattle.std.specs.List.{range_with_len}
use Rattle.osek_values.specs.Numbers.{block_no}
use Rattle.flow_services.specs.Services.{release_at}
use Rattle.flow_services.proofs.events.releases.Given as goal

abbrev pub invariant-loop-number : goal.invariant-loop-number
invariant-loop-number l = l.next ≡ map (λ (k : ℕ). release_at l.app l.events.0 (block_no (l.own.first.0 + k))) (range_with_len 0 l.number)
