-- there is no site, or one that takes all
use Rattle.std.proofs.lemmas.Bool.{and_from}
use Rattle.std.proofs.Common.{◌≡◌, ◌∙◌, true, sym, subst}
use Rattle.osek_standard.specs.{declared.block.{Kind.{Kind}}}
use Rattle.image_run.specs.Trapless.{is_trapless}
use Rattle.image_run.proofs.TraplessSites.{IsTraplessAt, here_kind, no_trap}
use Rattle.image_run.proofs.trapless.is_no_trap.Goals as goal

pub returns-in_default : goal.returns-in_default
returns-in_default c choice trapless =
    let i = c.args.image.now in
    let s = c.args.state.now in
    no_trap i s choice c.requires.well c.requires.active (subst (IsTraplessAt i s) (sym c.in_default.is ∙ c.requires.site) tt)

pub returns-then-takes_all : goal.returns-then-takes_all
returns-then-takes_all c choice trapless =
    let i = c.args.image.now in
    let s = c.args.state.now in
    let there : c.block.result.now.kind ≡ here_kind i s = cc in
    let site : is_trapless i.app s c.in-Some.site c.block.result.now.kind ≡ true = and_from _ _ (sym c.foresees.ensures ∙ trapless) (sym c.takes_all.ensures ∙ c.if-takes_all.true) in
    let trapless_here : is_trapless i.app s c.in-Some.site (here_kind i s) ≡ true = subst (λ (k : Kind). is_trapless i.app s c.in-Some.site k ≡ true) there site in
    no_trap i s choice c.requires.well c.requires.active (subst (IsTraplessAt i s) (sym c.in-Some.is ∙ c.requires.site) trapless_here)
