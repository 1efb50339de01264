use Rattle.std.proofs.lemmas.Bool.{OnTrue_at}
use Rattle.std.proofs.Common.{subst}
use Rattle.std.specs.declared.option.Option.{Option}
use Rattle.osek_values.specs.declared.status.Status.{Status}
use Rattle.flow_model.specs.declared.case.Decision.{Decision}
use Rattle.flow_check.specs.Found.{Seen, AreJoined, outcome_seen, status_seen}
use Rattle.flow_check.proofs.ExitOutcomes.{with_begin, with_one}
use Rattle.flow_check.proofs.outcomes.with_exit.Goals as goal

pub returns-in-None : goal.returns-in-None
returns-in-None c = λ done h. with_begin done c.args.exit.now c.args.found h c.in-None.is

pub returns-then-tells : goal.returns-then-tells
returns-then-tells c = λ done h.
    let told = OnTrue_at c.if-tells.true c.tells.ensures in
    with_one done c.args.exit.now c.args.found h c.in-Some.decision c.in-Some.is c.args.found told.outcome told.status

pub returns-else-tells : goal.returns-else-tells
returns-else-tells c = λ done h.
    let found = c.args.found in
    let all = c.join.result in
    with_one done c.args.exit.now found h c.in-Some.decision c.in-Some.is all
    (subst (λ (y : Seen Decision). AreJoined (outcome_seen found.outcome) y (outcome_seen all.outcome)) c.one.ensures.outcome c.join.ensures.outcome)
    (subst (λ (y : Seen (Option Status)). AreJoined (status_seen found.status) y (status_seen all.status)) c.one.ensures.status c.join.ensures.status)
