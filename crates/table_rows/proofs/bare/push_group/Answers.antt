use Rattle.std.proofs.Common.{◌++◌, List, map, sym, ap, ◌∙◌}
use Rattle.std.proofs.lemmas.Result.{on_ok_weaker}
use Rattle.osek_standard.specs.declared.point.Point.{Point}
use Rattle.point_exits.specs.declared.group.NumberEnd.{NumberEnd}
use Rattle.table_rows.specs.{declared.bare.BareExit.{BareExit}, BareExits.{bare_end}}
use Rattle.table_rows.proofs.BareLaws.{at_points, with_ends}
use Rattle.table_rows.proofs.bare.push_group.Goals as goal

pub returns-in-At : goal.returns-in-At
returns-in-At c =
    let g = c.args.group.now in
    let before = c.args.exits.now in
    on_ok_weaker c.push_points.result
    (λ is pool. is
    ∙ ap (λ (points : List Point). before ++ map (bare_end g) points) c.as_slice.ensures
    ∙ ap (λ (xs : List BareExit). before ++ xs) (sym (at_points pool g c.in-At.points c.in-At.is)))
    c.push_points.ensures

pub returns-in-With : goal.returns-in-With
returns-in-With c =
    let g = c.args.group.now in
    let before = c.args.exits.now in
    on_ok_weaker c.push_ends.result
    (λ is pool. is
    ∙ ap (λ (xs : List NumberEnd). before ++ map (λ (x : NumberEnd). bare_end g x.target) xs) c.as_slice-in-With.ensures
    ∙ ap (λ (xs : List BareExit). before ++ xs) (sym (with_ends pool g c.in-With.ends c.in-With.is)))
    c.push_ends.ensures
