use Rattle.std.proofs.Common.{◌≡◌, ℕ, false, not, get_or, sym, ap, subst, ◌∙◌, inl, inr, arith}
use Rattle.std.specs.declared.option.Option.{Option}
use Rattle.std.proofs.lemmas.Bool.{cases_eq}
use Rattle.flow_exits.specs.{Claims.{limit_of}, Needs.{is_too_low}}
use Rattle.point_exits.proofs.LeftLaws.{not_too_low}
use Rattle.point_exits.proofs.contest.are_met.Goals as goal

pub loop-task-preserved : goal.loop-task-preserved
loop-task-preserved c = λ u lt.
    let claim = c.args.claim in
    let k = c.loop-task.task in
    let need = get_or c.args.needs.now k 0 in
    let met = sym c.if-not-is_met.false ∙ c.is_met.ensures ∙ ap (λ (o : Option ℕ). not (is_too_low o need)) c.limit.ensures in
    elim (cases_eq u k) [
      | inl same ↦ subst (λ (i : ℕ). is_too_low (limit_of claim i) (get_or c.args.needs.now i 0) ≡ false) (sym same) (not_too_low (limit_of claim k) need met)
      | inr differ ↦ c.loop-task.invariant u (omega (arith, lt, differ))
    ]

pub returns-clause-met : goal.returns-clause-met
returns-clause-met c = λ u lt. c.loop-task.invariant u (omega (arith, lt))
