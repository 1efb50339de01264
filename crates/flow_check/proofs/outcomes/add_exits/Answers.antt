use Rattle.std.proofs.Common.{◌≡◌, ◌<◌, ◌++◌, ◌∷◌, [], ◌∙◌, ℕ, length, get_or, set, Some, None, sym, ap, subst}
use Rattle.osek_values.specs.{Numbers.{block_no}, declared.numbers.BlockNo.{BlockNo}}
use Rattle.osek_standard.specs.{declared.point.Point.{Point}, Points.{StandsAt}}
use Rattle.flow_check.specs.Outcomes.{AreFound}
use Rattle.flow_check.proofs.{RowOutcomes.{stands_once, row_passed, row_added}, ExitOutcomes.{of_all_exits}}
use Rattle.flow_check.proofs.outcomes.add_exits.Goals as goal

pub returns-in-None : goal.returns-in-None
returns-in-None c = λ app rows row at exits found.
    row_passed app rows row c.args.sites.now (λ b stands. absurd (c.in-None.ensures.none (block_no b) (subst (λ (p : Point). StandsAt p (block_no b)) at stands))) found

pub returns-in-None-at : goal.returns-in-None-at
returns-in-None-at c = λ app rows row at exits found.
    let sites = c.args.sites.now in
    let none : get_or sites c.in-Some.block.0 None ≡ None = ap (λ (i : ℕ). get_or sites i None) (sym c.index.ensures) ∙ c.at.ensures.item None ∙ c.in-None-at.is in
    row_passed app rows row sites
    (λ b stands. ap (λ (k : BlockNo). get_or sites k.0 None) (stands_once c.args.point (block_no b) c.in-Some.block (subst (λ (p : Point). StandsAt p (block_no b)) at stands) c.in-Some.ensures.some) ∙ none)
    found

pub returns-in-Some-at : goal.returns-in-Some-at
returns-in-Some-at c = λ app rows row at exits found.
    let sites = c.args.sites.now in
    let block = c.in-Some.block in
    let here : StandsAt row.point block = subst (λ (p : Point). StandsAt p block) (sym at) c.in-Some.ensures.some in
    let was : get_or sites block.0 None ≡ Some c.in-Some-at.before = ap (λ (i : ℕ). get_or sites i None) (sym c.index.ensures) ∙ c.at.ensures.item None ∙ c.in-Some-at.is in
    let put : c.put.new.self ≡ set sites block.0 (Some c.join.result) = c.put.ensures ∙ ap (λ (i : ℕ). set sites i (Some c.join.result)) c.index-in-Some-at.ensures in
    let there : block.0 < length sites = c.requires block c.in-Some.ensures.some in
    let of = of_all_exits app row c.args.exits.now exits c.found_in-more.result c.found_in-more.ensures in
    subst (AreFound app (rows ++ row ∷ [])) (sym put)
    (row_added app rows row sites block c.in-Some-at.before c.found_in-more.result c.join.result there here was of c.join.ensures found)
