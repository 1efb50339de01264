use Rattle.std.proofs.Common.{◌≡◌, ◌++◌, take, flat_map}
use Rattle.abstract_state.specs.Tables.{set_at}
use Rattle.flow_rules.specs.Ruling.{bars}
use Rattle.flow_rules.proofs.barring.bar_values.Given as goal

abbrev pub invariant-loop-value : goal.invariant-loop-value
invariant-loop-value l = l.conditions ≡ l.initial.conditions ++ flat_map (bars l.changes (set_at l.kept l.component.0) l.component) (take l.value-index l.values)
