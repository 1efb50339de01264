-- those of the sources so far
use Rattle.std.proofs.Common.{◌≡◌, not, filter}
use Rattle.std.specs.{Prelude.{◌==◌}, List.{range_with_len}}
use Rattle.flow_effects.specs.Returns.{are_out}
use Rattle.flow_effects.proofs.returns.others_out.Given as goal

abbrev pub invariant-loop-source : goal.invariant-loop-source
invariant-loop-source l = l.conditions ≡ are_out l.app (filter (λ k. not (k == l.ending.0)) (range_with_len 0 l.source))
