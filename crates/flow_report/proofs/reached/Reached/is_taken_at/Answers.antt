use Rattle.std.proofs.Common.{◌≡◌, get_or, false, true, refl, subst, inl, inr, arith}
use Rattle.std.proofs.lemmas.{Bool.{cases_lt}, List.{get_or_default, Elements.{Contains-get_or}}}
use Rattle.osek_standard.specs.Points.{StandsAt}
use Rattle.numbered_sets.specs.{declared.table.NumberedRow.{NumberedRow}}
use Rattle.flow_report.proofs.BlockPlaces.{none_before, none_behind, taken_at, none_taken}
use Rattle.flow_report.proofs.reached.Reached.is_taken_at.Goals as goal

pub loop-place-init : goal.loop-place-init
loop-place-init c =
    let self = c.args.self.now in
    (omega arith, λ k d lt at held. none_before self.app.now self.pool.now self.rows.now c.requires c.args.block c.place_of-first.result c.place_of-first.ensures k d lt at)

pub returns-then-not-stands_at : goal.returns-then-not-stands_at
returns-then-not-stands_at c =
    let self = c.args.self.now in
    let rows = self.rows.now in
    let b = c.args.block in
    let place = c.loop-place.place in (
      λ e. absurd (cc),
      λ h. absurd (none_taken self.app.now self.pool.now rows c.requires b c.args.resource (λ k d lt at held. elim (cases_lt k place) [
        | inl less ↦ c.loop-place.invariant.1 k d less at held
        | inr le ↦ none_behind self.app.now self.pool.now rows c.requires b c.place_of-first.result c.place_of-first.ensures place c.loop-place.invariant.0
            (λ o within stands.
            (let wrong : false ≡ true = c.if-not-stands_at.ensures.1 (subst (λ (x : NumberedRow). StandsAt x.point b) (get_or_default rows place o c.index-self-place.result within) stands) in
            absurd (cc))) k d le lt at
      ]) h),
    )

pub returns-then-is_held_in : goal.returns-then-is_held_in
returns-then-is_held_in c =
    let self = c.args.self.now in
    let rows = self.rows.now in
    let row = get_or rows c.loop-place.place c.index-self-place.result in
    let listed = Contains-get_or rows c.loop-place.place c.index-self-place.result c.loop-place-test.true in
    (λ e. taken_at self.app.now self.pool.now rows c.requires c.args.block c.args.resource row listed (c.if-not-stands_at.ensures.0 refl) (c.is_held_in.ensures.0 c.if-is_held_in.true), λ h. refl)

pub returns : goal.returns
returns c =
    let self = c.args.self.now in (
      λ e. absurd (cc),
      λ h. absurd (none_taken self.app.now self.pool.now self.rows.now c.requires c.args.block c.args.resource (λ k d lt at held. c.loop-place.invariant.1 k d (omega (arith, lt, c.loop-place-test.false)) at held) h),
    )
