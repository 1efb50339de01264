-- those of the sources so far
use Rattle.std.proofs.Common.{◌≡◌, ◌++◌, map, filter}
use Rattle.std.specs.List.{range_with_len}
use Rattle.flow_effects.specs.Returns.{may_be_in, nested_return}
use Rattle.flow_effects.proofs.returns.add_nested_returns.Given as goal

abbrev pub invariant-loop-next : goal.invariant-loop-next
invariant-loop-next l =
    l.cases ≡ l.fn.cases ++ map (nested_return l.app l.ending.source l.ending.component l.ending.over) (filter (may_be_in l.outs l.ending.source) (range_with_len 0 l.next))
