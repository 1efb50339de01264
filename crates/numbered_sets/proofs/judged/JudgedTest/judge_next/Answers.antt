use Rattle.std.proofs.{Common.{◌≡◌, ◌+◌, ◌∙◌, get_or, sym, subst}, lemmas.List.{get_or_default}}
use Rattle.abstract_state.specs.declared.value.PartValue.{PartValue}
use Rattle.flow_model.specs.Tests.{passes}
use Rattle.numbered_sets.specs.{declared.judged.JudgedTest.{JudgedTest}, Judging.{IsJudgedTest}, Numbers.{Numbers}}
use Rattle.numbered_sets.proofs.JudgedLaws.{judged_test, judged_taken, judged_left}
use Rattle.numbered_sets.proofs.judged.JudgedTest.judge_next.Goals.{then-passes+in_ok-put, else-passes}
use Rattle.numbered_sets.proofs.judged.JudgedTest.judge_next.Goals as goal

pub returns-clause-judged : goal.returns-clause-judged
returns-clause-judged c =
    let vs = c.args.seen.now.values in
    let x = c.args.self.now in
    let its : (d : PartValue) → c.in_ok-passes.passes ≡ passes x.test (get_or vs x.judged d) = λ d.
    c.in_ok-passes.ensures (get_or vs x.judged d) (record { known = c.requires.next; is = λ e. get_or_default vs x.judged e d c.requires.next }) in
    elim c.if-passes.branch [
      | then-passes+in_ok-put w ↦
          subst (λ (y : JudgedTest). IsJudgedTest vs (judged_test y.test (x.judged + 1) y.passing y.spent)) (sym w.self-is)
          (subst (λ (y : Numbers). IsJudgedTest vs (judged_test x.test (x.judged + 1) y x.spent)) (sym w.in_ok-put.ensures.set) (judged_taken vs x c.requires.next c.requires.judged (λ d. sym (its d) ∙ w.if-passes.true)))
      | else-passes w ↦
          subst (λ (y : JudgedTest). IsJudgedTest vs (judged_test y.test (x.judged + 1) y.passing y.spent)) (sym w.self-is)
          (judged_left vs x c.requires.next c.requires.judged (λ d. sym (its d) ∙ w.if-passes.false))
    ]
