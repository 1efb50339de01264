-- the tests of the sources below this one
use Rattle.std.proofs.Common.{◌≡◌, ◌++◌}
use Rattle.std.specs.{Prelude.{flat_map}, List.{range_with_len}}
use Rattle.flow_exits.specs.Arrivals.{nest_condition}
use Rattle.flow_exits.proofs.beginning.add_nest_of_all.Given as goal

abbrev pub invariant-loop-other : goal.invariant-loop-other
invariant-loop-other l = l.conditions ≡ l.initial.conditions ++ flat_map (nest_condition l.app l.fn.source.0) (range_with_len 0 l.other)
