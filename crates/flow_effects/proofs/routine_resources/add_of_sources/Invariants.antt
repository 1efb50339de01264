-- those of the sources so far
use Rattle.std.proofs.Common.{◌≡◌, ◌++◌, map}
use Rattle.std.specs.List.{range_with_len}
use Rattle.flow_effects.specs.Conditions.{of_source}
use Rattle.flow_effects.proofs.routine_resources.add_of_sources.Given as goal

abbrev pub invariant-loop-source : goal.invariant-loop-source
invariant-loop-source l = l.conditions ≡ l.fn.conditions ++ map (λ k. of_source l.app k l.test) (range_with_len 0 l.source)
