use Rattle.std.proofs.Common.{◌≡◌, false, true, sym, subst, ◌∙◌, inl, inr, arith}
use Rattle.std.proofs.lemmas.Bool.{cases_Bool}
use Rattle.osek_standard.specs.Points.{StandsAt}
use Rattle.numbered_sets.specs.declared.table.NumberedRow.{NumberedRow}
use Rattle.flow_report.proofs.BlockPlaces.{nowhere, reached_at}
use Rattle.flow_report.proofs.reached.Reached.is_reached.Goals as goal

pub returns-in-None : goal.returns-in-None
returns-in-None c =
    let self = c.args.self.now in (
      λ e. absurd (cc),
      λ h. absurd (nowhere self.app.now self.pool.now self.rows.now c.requires c.args.block c.place_of.result c.place_of.ensures (λ d lt at. absurd (omega (arith, lt, c.in-None.ensures.lookup.3))) h),
    )

pub returns-in-Some : goal.returns-in-Some
returns-in-Some c =
    let self = c.args.self.now in
    let rows = self.rows.now in
    let b = c.args.block in
    let row = c.in-Some.row.now in
    let lookup = c.in-Some.ensures.lookup.3 in (
      λ e. reached_at self.app.now self.pool.now rows c.requires b row (c.place_of.result, lookup.0, sym (lookup.1 row)) (c.stands_at.ensures.0 e),
      λ h. elim (cases_Bool c.stands_at.result) [
        | inl e ↦ e
        | inr f ↦ absurd (nowhere self.app.now self.pool.now rows c.requires b c.place_of.result c.place_of.ensures (λ d lt at.
            (let wrong : false ≡ true = sym f ∙ c.stands_at.ensures.1 (subst (λ (x : NumberedRow). StandsAt x.point b) (sym (lookup.1 d)) at) in
            absurd (cc))) h)
      ],
    )
