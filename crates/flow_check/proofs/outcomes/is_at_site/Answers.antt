use Rattle.std.proofs.Common.{◌≡◌, get_or, Option, Some, None, refl, sym, ap, subst, ◌∙◌, ℕ, Bool}
use Rattle.std.specs.{Bool.{OnFalse}, Option.{is_some}}
use Rattle.osek_values.specs.declared.numbers.BlockNo.{BlockNo}
use Rattle.osek_standard.specs.Points.{StandsAt}
use Rattle.flow_check.specs.declared.found.Findings.{Findings}
use Rattle.flow_check.proofs.RowOutcomes.{stands_once}
use Rattle.flow_check.proofs.outcomes.is_at_site.Goals as goal

none_told : {P : Type 0} (x : Option Findings) → (x ≡ None → P) → OnFalse (is_some x) P
none_told None h = h refl
none_told (Some x) h = tt

pub returns-in-None : goal.returns-in-None
returns-in-None c = λ b stands. absurd (c.in-None.ensures.none b stands)

pub returns-in-Some : goal.returns-in-Some
returns-in-Some c =
    let sites = c.args.sites.now in
    let block = c.in-Some.block in
    let at : get_or sites block.0 None ≡ c.at.result.now = ap (λ (i : ℕ). get_or sites i None) (sym c.index.ensures) ∙ c.at.ensures.item None in
    subst (λ (r : Bool). OnFalse r ((b : BlockNo) → StandsAt c.args.point b → get_or sites b.0 None ≡ None)) (sym c.is_some.ensures)
    (none_told c.at.result.now (λ e b stands. ap (λ (k : BlockNo). get_or sites k.0 None) (stands_once c.args.point b block stands c.in-Some.ensures.some) ∙ at ∙ e))
