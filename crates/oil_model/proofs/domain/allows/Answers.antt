-- a sign is in no domain
use Rattle.std.proofs.Common.{◌≡◌, ℕ, false, refl, sym, ap, ◌∙◌, inl, inr}
use Rattle.oil_tree.specs.declared.tree.{Sign.{Sign, TheVariants.{Plus, Minus}}, Value.TheVariants.{Numeric}}
use Rattle.oil_model.specs.declared.domain.Domain.{Domain}
use Rattle.oil_model.specs.declared.domain.Domain.TheVariants as domain
use Rattle.oil_model.specs.Table.{allows}
use Rattle.oil_model.proofs.domain.allows.Goals as goal

no_plus : (d : Domain) (n : ℕ) → allows d (Numeric Plus n) ≡ false
no_plus (domain.Number low high) n = refl
no_plus domain.EventMask n = refl
no_plus d n = refl

no_minus : (d : Domain) (n : ℕ) → allows d (Numeric Minus n) ≡ false
no_minus (domain.Number low high) n = refl
no_minus domain.EventMask n = refl
no_minus d n = refl

pub returns-in-Plus : goal.returns-in-Plus
returns-in-Plus c =
    let of_sign = λ (s : Sign). allows c.args.domain (Numeric s c.in-Numeric.number) in
    sym (ap (allows c.args.domain) c.in-Numeric.is ∙ elim c.in-Plus.is [
      | inl plus ↦ ap of_sign plus ∙ no_plus c.args.domain c.in-Numeric.number
      | inr minus ↦ ap of_sign minus ∙ no_minus c.args.domain c.in-Numeric.number
    ])
