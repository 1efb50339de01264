use Rattle.std.proofs.Common.{◌∙◌, ◌∷◌, [], length, sym, subst}
use Rattle.std.specs.List.{insert}
use Rattle.std.proofs.lemmas.{Bool.{OnTrue_at}, List.Edits.{insert_end}}
use Rattle.global_cfg.specs.Targets.{AreEndsPut}
use Rattle.global_cfg.proofs.{PointPlaces.{number_there, put_new}, PuttingIn.{not_on, one_there, one_put}}
use Rattle.global_cfg.proofs.targets.put_target.Goals as goal

pub returns-then-not-leads_on : goal.returns-then-not-leads_on
returns-then-not-leads_on c = not_on c.args.from c.args.exit c.args.points.now.items c.requires (sym c.leads_on.ensures ∙ c.if-not-leads_on.true)

pub returns-then-is_above : goal.returns-then-is_above
returns-then-is_above c =
    let points = c.args.points.now.items in
    let target = c.args.exit.target in
    let gap = rw c.as_slice.ensures.value at (OnTrue_at c.if-is_above.true c.is_above.ensures) in
    subst (AreEndsPut c.args.from (c.args.exit ∷ []) points) (insert_end points target ∙ sym c.in_ok-push.ensures.items)
    (one_put c.args.from c.args.exit points (insert points (length points) target) (sym c.leads_on.ensures ∙ c.if-not-leads_on.false)
    (put_new points c.requires target (length points) gap))

pub returns-in_default : goal.returns-in_default
returns-in_default c =
    let points = c.args.points.now.items in
    let target = c.args.exit.target in
    one_there c.args.from c.args.exit points c.requires
    (number_there points target c.in_default.field-0 (rw (c.as_slice-2.ensures.value, c.number.ensures) at c.in_default.ensures.place))

pub returns : goal.returns
returns c =
    let points = c.args.points.now.items in
    let target = c.args.exit.target in
    subst (AreEndsPut c.args.from (c.args.exit ∷ []) points) (sym c.in_ok-insert.ensures.items)
    (one_put c.args.from c.args.exit points (insert points c.in-Err.gap target) (sym c.leads_on.ensures ∙ c.if-not-leads_on.false)
    (put_new points c.requires target c.in-Err.gap (rw (c.as_slice-2.ensures.value, c.number.ensures) at c.in-Err.ensures.gap)))
