use Rattle.std.proofs.Common.{inl, inr}
use Rattle.flow_check.proofs.StartLaws.{on_true, on_false}
use Rattle.flow_check.proofs.staying.is_in.Goals as goal

pub returns-in-None-clause-out : goal.returns-in-None-clause-out
returns-in-None-clause-out c = inl c.in-None.ensures.none

pub returns-in-Some-clause-within : goal.returns-in-Some-clause-within
returns-in-Some-clause-within c =
    on_true c.is_within.result (λ h. record { row = c.in-Some.row.now; is = c.in-Some.ensures.some; below = record { each = h.each } }) c.is_within.ensures.within

pub returns-in-Some-clause-out : goal.returns-in-Some-clause-out
returns-in-Some-clause-out c =
    on_false c.is_within.result (λ h. inr (record { row = c.in-Some.row.now; is = c.in-Some.ensures.some; beside = h })) c.is_within.ensures.beside
