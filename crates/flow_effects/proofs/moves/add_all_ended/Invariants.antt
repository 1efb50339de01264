-- those of the sources so far
use Rattle.std.proofs.Common.{◌≡◌, ◌++◌, map}
use Rattle.std.specs.List.{range_with_len}
use Rattle.abstract_state.specs.declared.value.SourceVal.TheVariants as source_val
use Rattle.flow_model.specs.Changes.{source_change}
use Rattle.flow_effects.proofs.moves.add_all_ended.Given as goal

abbrev pub invariant-loop-source : goal.invariant-loop-source
invariant-loop-source l = l.changes ≡ l.fn.changes ++ map (λ k. source_change l.app k source_val.Out) (range_with_len 0 l.source)
