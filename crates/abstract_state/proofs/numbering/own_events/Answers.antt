use Rattle.std.proofs.Common.{◌≡◌, ℕ, map, filter, ap, sym, ◌∙◌, arith}
use Rattle.std.specs.List.{range_with_len}
use Rattle.osek_values.specs.{Numbers.{event_no}, Bits.{has_bit}}
use Rattle.osek_standard.specs.declared.objects.Task.{Task}
use Rattle.abstract_state.proofs.RangeLaws.{passed_more, failed_more}
use Rattle.abstract_state.proofs.numbering.own_events.Goals as goal
use Rattle.abstract_state.proofs.numbering.own_events.Goals.{then-has+in_ok-push, else-has}

pub loop-bit-preserved : goal.loop-bit-preserved
loop-bit-preserved c =
    let own = c.task.result.now.own.0 in
    elim c.if-has.branch [
      | then-has+in_ok-push w ↦ w.events-is ∙ w.in_ok-push.ensures.ok ∙ passed_more (has_bit own) event_no c.loop-bit.events c.loop-bit.bit c.loop-bit.invariant (sym c.has.ensures ∙ w.if-has.true)
      | else-has w ↦ w.events-is ∙ failed_more (has_bit own) event_no c.loop-bit.events c.loop-bit.bit c.loop-bit.invariant (sym c.has.ensures ∙ w.if-has.false)
    ]

pub returns : goal.returns
returns c =
    let all : c.loop-bit.bit ≡ 64 = omega arith in
    c.loop-bit.invariant
    ∙ ap (λ (n : ℕ). map event_no (filter (has_bit c.task.result.now.own.0) (range_with_len 0 n))) all
    ∙ ap (λ (x : Task). map event_no (filter (has_bit x.own.0) (range_with_len 0 64))) (sym c.task.ensures)
