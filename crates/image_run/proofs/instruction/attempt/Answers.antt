-- the form of a site gives the outcome, and elsewhere nothing is asked
use Rattle.std.proofs.Common.{◌∙◌, sym, ap}
use Rattle.std.specs.{Prelude.{option_map}, declared.option.Option.{Option}}
use Rattle.osek_standard.specs.{States.{here}, Effects.{Effect, effected}, Dispatch.{concluded}}
use Rattle.osek_standard.proofs.{WellLaws.{in_owner_known}, MoveKeeps.{here_own}}
use Rattle.image_model.specs.{declared.site.Site.{Site}, ImageStep.{site_at, formed_at, instructed}}
use Rattle.image_run.proofs.{OtherEffects.{asks_none_elsewhere}, SiteForms.{no_site_there}}
use Rattle.image_run.proofs.instruction.attempt.Goals as goal

pub conclude_by-notes-requires-clause-other : goal.conclude_by-notes-requires-clause-other
conclude_by-notes-requires-clause-other g c =
    let i = c.args.image.now in
    let s = c.args.state.now in
    let b = (here s).block.0 in
    let known = in_owner_known i.app s s.processor c.requires.well.processor b (here_own i.app s c.requires.well c.requires.active) in
    λ none. sym (ap (λ (e : Effect). e.ask) c.effect-done.ensures.row) ∙ asks_none_elsewhere i.app s c.requires.well c.args.choice (no_site_there i b known (sym c.requires.site ∙ none))

pub returns-clause-step : goal.returns-clause-step
unfolding instructed
returns-clause-step g c =
    let i = c.args.image.now in
    let done : Effect = effected c.effect-done.new.state c.effect-done.result.notes c.effect-done.result.ask in
    ap (λ (e : Effect). option_map (concluded i.app e) (formed_at i.app e (site_at i (here c.args.state.now).block.0))) c.effect-done.ensures.row
    ∙ ap (λ (o : Option Site). option_map (concluded i.app done) (formed_at i.app done o)) (sym c.requires.site)
    ∙ c.conclude_by-notes.ensures.step

pub returns-clause-ready : goal.returns-clause-ready
returns-clause-ready g c = c.take_in_running.ensures c.effect-done.new.state c.effect-done.ensures.ready c.conclude_by-notes.ensures.levels
