-- those below the number that may begin
use Rattle.std.proofs.Common.{◌≡◌, ◌&&◌, map, filter}
use Rattle.std.specs.List.{range_with_len}
use Rattle.flow_exits.specs.Arrivals.{arrival_rule, fits_internal, is_lower}
use Rattle.flow_exits.proofs.beginning.arrivals_over.Given as goal

abbrev pub invariant-loop-source : goal.invariant-loop-source
invariant-loop-source l = l.rules ≡ map (arrival_rule l.app l.over l.running) (filter (λ k. is_lower l.app l.running k && fits_internal l.app l.over k) (range_with_len 0 l.source))
