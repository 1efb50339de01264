use Rattle.std.proofs.{Common.{◌∷◌, sym, ◌∙◌, append_assoc}, lemmas.Result.{err_from_is_err_and}}
use Rattle.oil_tree.specs.Expect.{some_objects}
use Rattle.osek_values.proofs.Refusals.{refuses_map}
use Rattle.oil_tree.proofs.ObjectsRead.{reads_objects, one_object_more}
use Rattle.oil_tree.proofs.file.objects.Goals as goal

pub returns-then-is_close : goal.returns-then-is_close
returns-then-is_close c =
    reads_objects _ _ _ _ _ _ c.loop-found.invariant.joins c.loop-found.invariant.takes c.in_ok-token.ensures (sym c.is_close.ensures ∙ c.if-is_close.true) c.from_vec.ensures

pub returns-in_err-next : goal.returns-in_err-next
returns-in_err-next c =
    let p = err_from_is_err_and c.from_residual-in_err-next.result c.from_residual-in_err-next.ensures.1 in
    rw (p.1, p.2) (refuses_map c.in_err-next.field-0.0 _ _ (λ stop h stack. c.loop-found.invariant.takes stack ∙ one_object_more _ stack _ _ c.in_ok-token.ensures (sym c.is_close.ensures ∙ c.if-is_close.false) ∙ h (some_objects ∷ stack)) c.in_err-next.ensures)

pub loop-found-preserved : goal.loop-found-preserved
loop-found-preserved c =
    let o = c.in_ok-next.next in
    let read = c.in_ok-next.ensures in
    record {
      joins = λ next last more. rw (c.in_ok-push.ensures.items, append_assoc) (c.loop-found.invariant.joins (o ∷ next) last (read.joins next last more));
      takes = λ stack. c.loop-found.invariant.takes stack ∙ one_object_more _ stack _ _ c.in_ok-token.ensures (sym c.is_close.ensures ∙ c.if-is_close.false) ∙ read.takes (some_objects ∷ stack);
    }
