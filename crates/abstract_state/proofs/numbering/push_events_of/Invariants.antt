use Rattle.std.proofs.Common.{◌≡◌, ◌++◌, map, take}
use Rattle.osek_values.specs.declared.numbers.EventNo.{EventNo}
use Rattle.abstract_state.specs.declared.value.Component.TheVariants as component
use Rattle.abstract_state.proofs.numbering.push_events_of.Given as goal

abbrev pub invariant-loop-bit : goal.invariant-loop-bit
invariant-loop-bit l = l.all ≡ l.initial.all ++ map (λ (k : EventNo). component.Event l.task k) (take l.bit-index l.bit-items)
