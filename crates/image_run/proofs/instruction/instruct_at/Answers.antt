-- a trap's effect is undone
use Rattle.std.proofs.Common.{◌≡◌, ◌≢◌, refl, ◌∙◌, true, sym, ap, Some, None, IfSome, subst}
use Rattle.std.specs.declared.option.Option.{Option}
use Rattle.osek_standard.specs.{Apps.{is_site}, States.{here}}
use Rattle.osek_standard.proofs.{WellLaws.{in_owner_known}, MoveKeeps.{here_own}}
use Rattle.image_model.specs.{declared.site.Site.{Site}, ImageStep.{site_at}}
use Rattle.image_run.specs.{declared.before.Before.{Before}, Befores.{before, put_back}}
use Rattle.image_run.proofs.{SiteForms.{is_of_site}, UndoLaws.{undone}}
use Rattle.image_run.proofs.instruction.instruct_at.Goals as goal

where_some : (P : Type 0) (o : Option Site) → IfSome o (λ (x : Site). P) → o ≢ None → P
where_some P None h n = absurd (n refl)
where_some P (Some x) h n = h

pub returns-in-None-clause-trap : goal.returns-in-None-clause-trap
returns-in-None-clause-trap g c =
    let i = c.args.image.now in
    let s = c.args.state.now in
    let b = (here s).block.0 in
    let known = in_owner_known i.app s s.processor c.requires.well.processor b (here_own i.app s c.requires.well c.requires.active) in
    let site : is_site i.app b ≡ true = where_some (is_site i.app b ≡ true) (site_at i b) (is_of_site i b known) (subst (λ (o : Option Site). o ≢ None) c.requires.site c.in-None.ensures.trap.0) in
    sym c.undo.ensures.state
    ∙ ap (λ (x : Before). put_back x c.attempt-2.new.state) c.of-before.ensures
    ∙ ap (put_back (before i.app s)) c.in-None.ensures.trap.1
    ∙ undone i.app s c.requires.well c.args.choice site
