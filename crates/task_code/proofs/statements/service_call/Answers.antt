use Rattle.std.proofs.lemmas.Result.{err_from_is_err_and}
use Rattle.task_code.proofs.StatementsRead.{reads_call, stops_behind_call}
use Rattle.task_code.proofs.statements.service_call.Goals as goal

pub returns-in_err-rest-2 : goal.returns-in_err-rest-2
returns-in_err-rest-2 c =
    let p = err_from_is_err_and c.from_residual-in_err-rest-2.result c.from_residual-in_err-rest-2.ensures.1 in
    rw (p.1, p.2) (λ d. stops_behind_call d _ _ _ _ _ _ _ c.in_ok-rest.ensures.1 c.in_ok-call.ensures (c.in_err-rest-2.ensures d))

pub returns : goal.returns
returns c = λ d. reads_call d _ _ _ _ _ _ _ _ _ c.in_ok-rest.ensures.1 c.in_ok-call.ensures c.in_ok-rest-2.ensures.1
