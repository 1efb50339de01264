use Rattle.std.proofs.Common.{sym, ap, ◌∙◌, arith}
use Rattle.std.specs.Prelude.{Some}
use Rattle.std.proofs.lemmas.Result.{MatchResult-weaker, err_from_is_err_and}
use Rattle.osek_values.proofs.Refusals.{refuses_map}
use Rattle.task_code.specs.Words.{statement_word}
use Rattle.task_code.proofs.StatementsRead.{reads_block, reads_if, reads_if_else, reads_while, reads_statement, reads_close, stops_in_else, stops_behind_condition, list_joins, list_takes, list_within, list_stops, stops_at_word, stops_behind_word, stops_in_block, stops_not_open}
use Rattle.task_code.proofs.statements.+statements.Goals as goal

pub block-returns-then-not-is_open : goal.block-returns-then-not-is_open
block-returns-then-not-is_open t c = stops_not_open _ _ _ _ c.in_ok-token.ensures (sym c.is_open.ensures ∙ c.if-not-is_open.true)

pub block-statements-requires : goal.block-statements-requires
block-statements-requires t c = (omega arith, omega arith)

pub block-returns-in_err-found : goal.block-returns-in_err-found
block-returns-in_err-found t c =
    let p = err_from_is_err_and c.from_residual-in_err-found.result c.from_residual-in_err-found.ensures.1 in
    rw (p.1, p.2) (refuses_map c.in_err-found.field-0.0 _ _ (λ stop h. stops_in_block _ _ _ _ stop c.in_ok-token.ensures (sym c.is_open.ensures ∙ c.if-not-is_open.false) (omega arith) h) c.in_err-found.ensures)

pub block-returns : goal.block-returns
block-returns t c = reads_block _ _ _ _ _ _ c.in_ok-token.ensures (sym c.is_open.ensures ∙ c.if-not-is_open.false) (omega arith) c.in_ok-found.ensures

pub conditional-returns-in_err-branch-in-Some : goal.conditional-returns-in_err-branch-in-Some
conditional-returns-in_err-branch-in-Some t c =
    let p = err_from_is_err_and c.from_residual-in_err-branch-in-Some.result c.from_residual-in_err-branch-in-Some.ensures.1 in
    rw (p.1, p.2) (refuses_map c.in_err-branch-in-Some.field-0.0 _ _ (λ stop h. stops_in_else _ _ _ _ _ _ _ _ _ _ _ stop c.in_ok-rest.ensures.3 c.in_ok-then.ensures c.in-Some.ensures.2 c.in-Some.ensures.3 h) c.in_err-branch-in-Some.ensures)

pub conditional-returns-in_ok-branch-in-Some : goal.conditional-returns-in_ok-branch-in-Some
conditional-returns-in_ok-branch-in-Some t c = reads_if_else _ _ _ _ _ _ _ _ _ _ _ _ _ _ c.in_ok-rest.ensures.3 c.in_ok-then.ensures c.in-Some.ensures.2 c.in-Some.ensures.3 c.in_ok-branch-in-Some.ensures

pub conditional-returns-in-None : goal.conditional-returns-in-None
conditional-returns-in-None t c = reads_if _ _ _ _ _ _ _ _ _ c.in_ok-rest.ensures.3 c.in_ok-then.ensures c.in-None.ensures

pub repetition-returns-in_err-rest-2 : goal.repetition-returns-in_err-rest-2
repetition-returns-in_err-rest-2 t c =
    let p = err_from_is_err_and c.from_residual-in_err-rest-2.result c.from_residual-in_err-rest-2.ensures.1 in
    rw (p.1, p.2) (stops_behind_condition _ _ _ _ _ _ _ _ c.in_ok-rest.ensures.1 c.in_ok-condition.ensures.1 c.in_ok-condition.ensures.2 (c.in_err-rest-2.ensures _))

pub repetition-returns : goal.repetition-returns
repetition-returns t c = reads_while _ _ _ _ _ _ _ _ _ _ _ _ c.in_ok-rest.ensures.1 c.in_ok-condition.ensures.1 c.in_ok-condition.ensures.2 c.in_ok-rest-2.ensures.1 c.in_ok-body.ensures

pub statements-returns-in_err-next-in-Name : goal.statements-returns-in_err-next-in-Name
statements-returns-in_err-next-in-Name t c =
    let p = err_from_is_err_and c.from_residual-in_err-next-in-Name.result c.from_residual-in_err-next-in-Name.ensures.1 in
    rw (p.1, p.2) (refuses_map c.in_err-next-in-Name.field-0.0 _ _ (λ stop h stack. c.loop-found.invariant.takes stack ∙ list_stops _ _ _ _ _ stop c.in_ok-token.ensures c.in-Name.is h stack) c.in_err-next-in-Name.ensures)

pub statements-loop-found-preserved : goal.statements-loop-found-preserved
statements-loop-found-preserved t c =
    let read = c.in_ok-next-in-Name.ensures in
    let same = c.in_ok-push-in-Name.ensures.items in
    record {
      joins = list_joins _ _ _ _ _ _ _ _ _ _ c.loop-found.invariant.joins c.in_ok-token.ensures c.in-Name.is read same;
      takes = λ stack. c.loop-found.invariant.takes stack ∙ list_takes _ _ _ _ _ _ _ c.in_ok-token.ensures c.in-Name.is read stack;
      within = list_within _ _ _ _ c.loop-found.invariant.within read.within same;
    }

pub statements-returns-in-Mark-CloseBrace : goal.statements-returns-in-Mark-CloseBrace
statements-returns-in-Mark-CloseBrace t c =
    reads_close _ _ _ _ _ _ _ _ c.requires c.loop-found.invariant.joins c.loop-found.invariant.takes c.loop-found.invariant.within c.in_ok-token.ensures c.in-Mark-CloseBrace.is (rw c.in-Mark-CloseBrace.is at c.in-Mark-CloseBrace.field-0-is) c.from_vec.ensures

pub statement-returns-in_default : goal.statement-returns-in_default
statement-returns-in_default t c =
    let kind = ap statement_word (sym c.as_bytes.ensures.bytes) ∙ sym c.in_default.ensures in
    stops_at_word _ _ _ _ kind

pub statement-returns-in_ok-read-in-Work : goal.statement-returns-in_ok-read-in-Work
statement-returns-in_ok-read-in-Work t c =
    let kind = ap statement_word (sym c.as_bytes.ensures.bytes) ∙ sym c.in-Some.ensures ∙ ap Some c.in-Work.is in
    reads_statement _ _ _ _ _ _ _ kind (c.in_ok-read-in-Work.ensures _)

pub statement-returns-in-If : goal.statement-returns-in-If
statement-returns-in-If t c =
    let kind = ap statement_word (sym c.as_bytes.ensures.bytes) ∙ sym c.in-Some.ensures ∙ ap Some c.in-If.is in
    MatchResult-weaker c.conditional.result c.conditional.ensures (λ x read. reads_statement _ _ _ _ _ _ _ kind read)
    (λ e h. refuses_map e _ _ (λ stop k. stops_behind_word _ _ _ _ _ stop kind k) h)

pub statement-returns-in-While : goal.statement-returns-in-While
statement-returns-in-While t c =
    let kind = ap statement_word (sym c.as_bytes.ensures.bytes) ∙ sym c.in-Some.ensures ∙ ap Some c.in-While.is in
    MatchResult-weaker c.repetition.result c.repetition.ensures (λ x read. reads_statement _ _ _ _ _ _ _ kind read)
    (λ e h. refuses_map e _ _ (λ stop k. stops_behind_word _ _ _ _ _ stop kind k) h)

pub statement-returns-in-Service : goal.statement-returns-in-Service
statement-returns-in-Service t c =
    let kind = ap statement_word (sym c.as_bytes.ensures.bytes) ∙ sym c.in-Some.ensures ∙ ap Some c.in-Service.is in
    MatchResult-weaker c.service_call.result c.service_call.ensures (λ x read. reads_statement _ _ _ _ _ _ _ kind (read _))
    (λ e h. refuses_map e _ _ (λ stop k. stops_behind_word _ _ _ _ _ stop kind (k _)) h)
