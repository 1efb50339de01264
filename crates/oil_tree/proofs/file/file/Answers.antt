use Rattle.std.proofs.{Common.{◌∙◌}, lemmas.Result.{err_from_is_err_and}}
use Rattle.osek_values.proofs.Refusals.{refuses_map}
use Rattle.oil_tree.proofs.file.file.Goals as goal

pub returns-in_err-tree : goal.returns-in_err-tree
returns-in_err-tree c =
    let p = err_from_is_err_and c.from_residual-in_err-tree.result c.from_residual-in_err-tree.ensures.1 in
    rw (p.1, p.2) (refuses_map c.in_err-tree.field-0.0 _ _ (λ stop h stack. c.in_ok-rest.ensures.takes stack ∙ c.in_ok-rest-2.ensures.takes stack ∙ h stack) c.in_err-tree.ensures)

pub returns : goal.returns
returns c = record {
  is_file = c.in_ok-rest.ensures.joins _ _ (c.in_ok-rest-2.ensures.joins _ _ c.in_ok-tree.ensures.is_cpu);
  takes = λ stack. c.in_ok-rest.ensures.takes stack ∙ c.in_ok-rest-2.ensures.takes stack ∙ c.in_ok-tree.ensures.takes stack;
}
