use Rattle.std.proofs.{Common.{◌∷◌, sym, ◌∙◌, arith}, lemmas.Result.{err_from_is_err_and}}
use Rattle.oil_tree.specs.{Attrs.{attr_then}, Expect.{an_end, some_attrs}}
use Rattle.osek_values.proofs.Refusals.{refuses_map}
use Rattle.oil_tree.proofs.AttrsRead.{reads_attr, reads_close, reads_bare, reads_nested, not_close, not_open, stops_within, stops_behind_attrs, list_before-push}
use Rattle.oil_tree.proofs.attrs.+attrs.Goals as goal

pub attr-returns : goal.attr-returns
attr-returns t c = reads_attr _ _ _ _ _ _ _ _ _ _ _ _ c.in_ok-name.ensures c.in_ok-rest.ensures.1 c.in_ok-value.ensures c.in_ok-attrs.ensures c.in_ok-name-2.ensures

pub attrs-returns-then-is_close : goal.attrs-returns-then-is_close
attrs-returns-then-is_close t c =
    reads_close _ _ _ _ _ _ _ c.loop-found.invariant.joins c.loop-found.invariant.takes c.in_ok-token.ensures (sym c.is_close.ensures ∙ c.if-is_close.true) c.from_vec.ensures

pub attrs-returns-in_err-next : goal.attrs-returns-in_err-next
attrs-returns-in_err-next t c =
    let p = err_from_is_err_and c.from_residual-in_err-next.result c.from_residual-in_err-next.ensures.1 in
    rw (p.1, p.2) (refuses_map c.in_err-next.field-0.0 _ _ (λ stop h stack. c.loop-found.invariant.takes stack ∙ not_close _ _ stack _ _ c.in_ok-token.ensures (sym c.is_close.ensures ∙ c.if-is_close.false) ∙ h (some_attrs ∷ stack)) c.in_err-next.ensures)

pub attrs-loop-found-preserved : goal.attrs-loop-found-preserved
attrs-loop-found-preserved t c =
    let a = c.in_ok-next.next in
    let read = c.in_ok-next.ensures in
    record {
      joins = λ next last more. rw (c.in_ok-push.ensures.items, list_before-push) (c.loop-found.invariant.joins (attr_then a.name a.line a.value a.attrs next) last (read.joins next last more));
      takes = λ stack. c.loop-found.invariant.takes stack ∙ not_close _ _ stack _ _ c.in_ok-token.ensures (sym c.is_close.ensures ∙ c.if-is_close.false) ∙ read.takes (some_attrs ∷ stack);
    }

pub body-returns-in_err-rest : goal.body-returns-in_err-rest
body-returns-in_err-rest t c =
    let p = err_from_is_err_and c.from_residual-in_err-rest.result c.from_residual-in_err-rest.ensures.1 in
    rw (p.1, p.2) (λ stack. not_open _ _ stack _ _ c.in_ok-token.ensures (sym c.is_open.ensures ∙ c.if-not-is_open.true) ∙ c.in_err-rest.ensures _ stack)

pub body-returns-then-not-is_open : goal.body-returns-then-not-is_open
body-returns-then-not-is_open t c =
    rw (c.from_vec.ensures, c.new.ensures.items) (reads_bare _ _ _ _ _ c.in_ok-token.ensures (sym c.is_open.ensures ∙ c.if-not-is_open.true) c.in_ok-rest.ensures)

pub body-attrs-requires : goal.body-attrs-requires
body-attrs-requires t c = (omega arith, omega arith)

pub body-returns-in_err-found : goal.body-returns-in_err-found
body-returns-in_err-found t c =
    let p = err_from_is_err_and c.from_residual-in_err-found.result c.from_residual-in_err-found.ensures.1 in
    rw (p.1, p.2) (refuses_map c.in_err-found.field-0.0 _ _ (λ stop h stack. stops_within _ _ stack _ _ stop c.in_ok-token.ensures (sym c.is_open.ensures ∙ c.if-not-is_open.false) (omega arith) (h (an_end ∷ stack))) c.in_err-found.ensures)

pub body-returns-in_err-rest-2 : goal.body-returns-in_err-rest-2
body-returns-in_err-rest-2 t c =
    let p = err_from_is_err_and c.from_residual-in_err-rest-2.result c.from_residual-in_err-rest-2.ensures.1 in
    rw (p.1, p.2) (λ stack. stops_behind_attrs _ _ _ stack _ _ _ _ c.in_ok-token.ensures (sym c.is_open.ensures ∙ c.if-not-is_open.false) (omega arith) c.in_ok-found.ensures (c.in_err-rest-2.ensures _ stack))

pub body-returns : goal.body-returns
body-returns t c = reads_nested _ _ _ _ _ _ _ c.in_ok-token.ensures (sym c.is_open.ensures ∙ c.if-not-is_open.false) (omega arith) c.in_ok-found.ensures c.in_ok-rest-2.ensures
