use Rattle.std.proofs.Common.{◌++◌, List, ◌∙◌, ap, arith}
use Rattle.osek_values.specs.{Numbers.{event_no}, declared.numbers.EventNo.{EventNo}}
use Rattle.abstract_state.specs.declared.value.Component.{Component}
use Rattle.abstract_state.specs.declared.value.Component.TheVariants as component
use Rattle.abstract_state.specs.Components.{own_bits}
use Rattle.abstract_state.proofs.RangeLaws.{mapped_all}
use Rattle.abstract_state.proofs.numbering.push_events_of.Goals as goal

pub returns : goal.returns
returns c =
    c.loop-bit.invariant
    ∙ ap (λ (ys : List Component). c.args.all.now ++ ys)
    (mapped_all event_no (λ (k : EventNo). component.Event c.args.task k) (own_bits c.args.app.now c.args.task.0) c.as_slice-bit-items.result.now c.loop-bit.bit-index
    (c.as_slice-bit-items.ensures ∙ c.in_ok-events.ensures) (omega arith))
