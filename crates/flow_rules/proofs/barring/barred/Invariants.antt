use Rattle.std.proofs.Common.{◌≡◌, take, flat_map}
use Rattle.abstract_state.specs.{Components.{component_number, component_no}, declared.value.Component.{Component}}
use Rattle.flow_rules.specs.Ruling.{bars_at}
use Rattle.flow_rules.proofs.barring.barred.Given as goal

abbrev pub invariant-loop-component : goal.invariant-loop-component
invariant-loop-component l = l.conditions ≡ flat_map (λ (k : Component). bars_at l.changes l.from l.kept (component_no (component_number l.app k))) (take l.component-index l.component-items)
