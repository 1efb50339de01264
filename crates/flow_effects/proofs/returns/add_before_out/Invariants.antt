-- those of the sources so far
use Rattle.std.proofs.Common.{◌≡◌, ◌++◌, filter}
use Rattle.std.specs.List.{range_with_len}
use Rattle.flow_effects.specs.Returns.{is_before, are_out}
use Rattle.flow_effects.proofs.returns.add_before_out.Given as goal

abbrev pub invariant-loop-source : goal.invariant-loop-source
invariant-loop-source l = l.conditions ≡ l.fn.conditions ++ are_out l.app (filter (is_before l.app l.ending l.next.0) (range_with_len 0 l.source))
