use Rattle.std.proofs.Common.{◌≡◌, sym, ap, subst, ◌∙◌}
use Rattle.flow_model.specs.declared.change.Update.{Update}
use Rattle.numbered_sets.specs.{Keeping.{AreMadeSets, IsMadeSet, made_set}, Numbers.{Numbers}}
use Rattle.numbered_sets.proofs.KeptLaws.{kept_push}
use Rattle.numbered_sets.proofs.made_sets.MadeSets.keep.Goals as goal

pub returns : goal.returns
returns c = λ vs h k.
    let place = c.args.place in
    let u = c.in_ok-update.update in
    let given = c.in_ok-given.given in
    let made = c.in_ok-made.made in
    let same : made_set place u given made ≡ made_set place c.args.update.now c.args.given.now c.args.made.now =
    ap (λ (w : Update). made_set place w given made) c.in_ok-update.ensures
    ∙ ap (λ (x : Numbers). made_set place c.args.update.now x made) c.in_ok-given.ensures
    ∙ ap (λ (x : Numbers). made_set place c.args.update.now c.args.given.now x) c.in_ok-made.ensures in
    subst (AreMadeSets vs) (sym c.in_ok-push.ensures.ok) (kept_push vs c.args.self.now.sets (made_set place u given made) h (subst (IsMadeSet vs) (sym same) k))
