-- the point that stands where the point belongs is it, or none is
use Rattle.std.proofs.{Common.{ℕ, sym, subst, ◌∙◌}, lemmas.List.{get_or_default}}
use Rattle.osek_standard.specs.Points.{point_number}
use Rattle.table_rows.specs.Order.{IsPlaceBy, IsGapBy}
use Rattle.flow_watch.proofs.Halving.{point_there, no_point_there}
use Rattle.flow_watch.proofs.places.has_point.Goals as goal

pub returns-in-Ok : goal.returns-in-Ok
returns-in-Ok c =
    let points = c.args.points.now in
    let place = c.in-Ok.place in
    let at = subst (λ (n : ℕ). IsPlaceBy point_number points n place) c.number.ensures c.in-Ok.ensures.place in
    c.is_same.ensures ∙ sym (point_there points c.requires c.args.point place at _ (λ d. get_or_default points place _ d at.known))

pub returns-in-Err : goal.returns-in-Err
returns-in-Err c =
    let at = subst (λ (n : ℕ). IsGapBy point_number c.args.points.now n c.in-Err._gap) c.number.ensures c.in-Err.ensures.gap in
    sym (no_point_there c.args.points.now c.requires c.args.point c.in-Err._gap at)
