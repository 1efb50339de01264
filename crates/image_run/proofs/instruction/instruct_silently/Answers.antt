-- what notes nothing meets each known status, and where the form is the general one or there is no site the outcome is the
-- kernel's
use Rattle.std.proofs.Common.{◌≡◌, refl, ◌∙◌, Bool, true, sym, ap, arith, Some, None, IfSome}
use Rattle.std.specs.{Prelude.{option_map, if◌then◌else◌}, declared.option.Option.{Option}}
use Rattle.osek_values.specs.declared.status.Ask.{Ask}
use Rattle.osek_standard.specs.{declared.{app.App.{App}, state.State.{State}, task_state.Place.{Place}}, States.{here}, Effects.{Effect, effected}}
use Rattle.osek_standard.specs.Dispatch.{Outcome, concluded, nothing_noted, outcome_by}
use Rattle.osek_standard.proofs.{WellLaws.{in_owner_known}, MoveKeeps.{here_own}}
use Rattle.image_model.specs.{declared.site.{Form.{Form}, Known.{Known, TheVariants.{Any, Always}}, Site.{Site}}, Statuses.{allows_status}}
use Rattle.image_model.specs.ImageStep.{site_at, formed_at, formed_by, instructed}
use Rattle.image_model.specs.declared.site.Form.TheVariants as form
use Rattle.image_run.proofs.{OtherEffects.{asks_none_elsewhere}, SiteForms.{no_site_there}}
use Rattle.image_run.proofs.instruction.instruct_silently.Goals as goal

allows_none : (k : Known) → allows_status k None ≡ true
allows_none Any = refl
allows_none (Always None) = refl
allows_none (Always (Some x)) = refl

free_outcome : (app : App) (r : State) (a : Ask) (o : Option Site) → IfSome o (λ (x : Site). x.form ≡ form.General) → formed_at app (effected r nothing_noted a) o ≡ Some (outcome_by app r a)
free_outcome app r a None h = refl
free_outcome app r a (Some x) h =
    let e = effected r nothing_noted a in
    ap (λ (b : Bool). if b then formed_by app e x.form else None) (allows_none x.known) ∙ ap (λ (f : Form). formed_by app e f) h

pub site_at-site-requires : goal.site_at-site-requires
site_at-site-requires g c =
    let app = c.args.image.now.app in
    let s = c.args.state.now in
    let known = in_owner_known app s s.processor c.requires.well.processor (here s).block.0 (here_own app s c.requires.well c.requires.active) in
    omega (arith, known, ap (λ (p : Place). p.block.0) c.requires.here)

pub settle-requires-clause-other : goal.settle-requires-clause-other
settle-requires-clause-other g c none =
    let i = c.args.image.now in
    let s = c.args.state.now in
    let b = (here s).block.0 in
    let known = in_owner_known i.app s s.processor c.requires.well.processor b (here_own i.app s c.requires.well c.requires.active) in
    let site : c.site_at-site.result ≡ site_at i b = c.site_at-site.ensures.site ∙ ap (λ (p : Place). site_at i p.block.0) (sym c.requires.here) in
    sym (ap (λ (e : Effect). e.ask) c.in-Some.ensures.row) ∙ asks_none_elsewhere i.app s c.requires.well c.args.choice (no_site_there i b known (sym site ∙ none))

pub returns-in-Some-clause-step : goal.returns-in-Some-clause-step
unfolding instructed
returns-in-Some-clause-step g c =
    let i = c.args.image.now in
    let s = c.args.state.now in
    let ask = c.in-Some.ask in
    let done : Effect = effected c.silent_effect.new.state nothing_noted ask in
    let site : c.site_at-site.result ≡ site_at i (here s).block.0 = c.site_at-site.ensures.site ∙ ap (λ (p : Place). site_at i p.block.0) (sym c.requires.here) in
    ap (λ (e : Effect). option_map (concluded i.app e) (formed_at i.app e (site_at i (here s).block.0))) c.in-Some.ensures.row
    ∙ ap (λ (o : Option Site). option_map (concluded i.app done) (formed_at i.app done o)) (sym site)
    ∙ ap (λ (o : Option Outcome). option_map (concluded i.app done) o) (free_outcome i.app c.silent_effect.new.state ask c.site_at-site.result (c.if-not-is_free.ensures refl))
    ∙ ap Some c.settle.ensures.step
