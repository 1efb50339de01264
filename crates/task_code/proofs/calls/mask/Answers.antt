use Rattle.std.proofs.{Common.{◌∷◌, ◌∙◌}, lemmas.Result.{err_from_is_err_and}}
use Rattle.task_code.specs.Expect.{mask_rest}
use Rattle.osek_values.proofs.Refusals.{refuses_map}
use Rattle.task_code.proofs.Operands.{mask_ends, mask_joins, mask_takes}
use Rattle.task_code.proofs.calls.mask.Goals as goal

pub returns-in_err-event : goal.returns-in_err-event
returns-in_err-event c =
    let p = err_from_is_err_and c.from_residual.result c.from_residual.ensures.1 in
    rw (p.1, p.2) (refuses_map c.in_err-event.field-0.0 _ _ (λ stop h d stack. c.loop-events.invariant.takes d stack ∙ h d (mask_rest ∷ stack)) c.in_err-event.ensures)

pub returns-in-Mark-CloseParen : goal.returns-in-Mark-CloseParen
returns-in-Mark-CloseParen c =
    mask_ends _ _ _ _ _ _ _ _ _ c.loop-events.invariant.joins c.in_ok-event.ensures c.in_ok-token.ensures c.in-Mark-CloseParen.is (rw c.in-Mark-CloseParen.is at c.in-Mark-CloseParen.field-0-is) (c.of.ensures ∙ c.in_ok-push.ensures.items)

pub loop-events-preserved : goal.loop-events-preserved
loop-events-preserved c =
    let bar = rw c.in-Mark-Bar.is at c.in-Mark-Bar.field-0-is in
    record {
      joins = mask_joins _ _ _ _ _ _ _ _ _ c.loop-events.invariant.joins c.in_ok-event.ensures c.in_ok-token.ensures c.in-Mark-Bar.is bar c.in_ok-push.ensures.items;
      takes = λ d stack. c.loop-events.invariant.takes d stack ∙ mask_takes _ _ _ _ _ _ c.in_ok-event.ensures c.in_ok-token.ensures c.in-Mark-Bar.is bar d stack;
    }
