use Rattle.std.proofs.{Common.{◌≡◌, ℕ, get_or, inl, inr, sym, subst, arith, None}, lemmas.{Bool.{cases_lt, OnTrue_at}}}
use Rattle.flow_check.specs.{Fitting.{IsFormFit}}
use Rattle.flow_check.proofs.fitting.first_form_unfit.Goals as goal

pub loop-block-preserved : goal.loop-block-preserved
loop-block-preserved c = λ b below. elim (cases_lt b c.loop-block.block) [
  | inl lt ↦ c.loop-block.invariant b lt
  | inr le ↦
      (let found = c.args.found.now in
      let sites = c.args.image.now.sites in
      let k = c.loop-block.block in
      let same : b ≡ k = omega (arith, le, below) in
      let here = subst (IsFormFit (get_or found k None)) (sym (c.at.ensures.item None)) (OnTrue_at c.if-not-is_form_fit.false c.is_form_fit.ensures.fit) in
      subst (λ (j : ℕ). IsFormFit (get_or found j None) (get_or sites j None)) (sym same) here)
]
