use Rattle.std.proofs.Common.{◌≡◌, ◌-◌, length, get_or, nat_lt, sym, ap, ◌∙◌, arith}
use Rattle.std.proofs.lemmas.{Bool.{OnTrue_from, ltb-true}, List.{get_or_default}}
use Rattle.osek_standard.specs.Points.{point_number}
use Rattle.table_rows.specs.Order.{IsGapBy}
use Rattle.global_cfg.proofs.PointPlaces.{gap_behind}
use Rattle.global_cfg.proofs.targets.is_above.Goals as goal

pub returns-in-Some : goal.returns-in-Some
returns-in-Some c =
    let points = c.args.points.now in
    let n = point_number c.args.point in
    let last = c.in-Some.last.now in
    OnTrue_from (nat_lt c.number.result c.number-in-Some.result) (IsGapBy point_number points n (length points)) (λ less.
    gap_behind points c.requires n (λ d some.
    (let at : get_or points (length points - 1) d ≡ last =
    get_or_default points (length points - 1) d last (omega (arith, some)) ∙ sym c.in-Some.ensures.item.1 in
    omega (arith, ap point_number at, ltb-true c.number.result c.number-in-Some.result less, c.number.ensures, c.number-in-Some.ensures))))
