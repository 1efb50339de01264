-- the effect is that of the instruction where the caller stands; it keeps the state well-formed, and asks for the
-- processor only where no routine runs
use Rattle.std.proofs.Common.{◌∙◌, ap, subst}
use Rattle.osek_standard.specs.{Effects.{Effect}, Well.{Well}}
use Rattle.osek_standard.proofs.{EffectKeeps.{effect_keeps}, AskLaws.{MayDispatch, effect_may}}
use Rattle.generic_kernel.proofs.EffectLaws.{effect_here, may_dispatch_as}
use Rattle.generic_kernel.proofs.effects.perform.Goals as goal

pub returns-clause-row : goal.returns-clause-row
returns-clause-row c = effect_here c.args.app.now c.args.state.now c.args.choice c.here-place.result c.requires.active c.here-place.ensures.place ∙ c.effect_at.ensures

pub returns-clause-well : goal.returns-clause-well
returns-clause-well c =
    let app = c.args.app.now in
    let s = c.args.state.now in
    let row = effect_here app s c.args.choice c.here-place.result c.requires.active c.here-place.ensures.place ∙ c.effect_at.ensures in
    subst (Well app) (ap (λ (e : Effect). e.state) row) (effect_keeps app s c.requires.well c.args.choice)

pub returns-clause-dispatch : goal.returns-clause-dispatch
returns-clause-dispatch c =
    let app = c.args.app.now in
    let s = c.args.state.now in
    let row = effect_here app s c.args.choice c.here-place.result c.requires.active c.here-place.ensures.place ∙ c.effect_at.ensures in
    may_dispatch_as app c.effect_at.new.state c.effect_at.result.ask (subst (MayDispatch app) row (effect_may app s c.requires.well c.args.choice))
