use Rattle.std.proofs.Common.{◌<◌, length, sym, subst}
use Rattle.std.specs.Prelude.{All}
use Rattle.osek_standard.specs.declared.app.App.{App}
use Rattle.image_model.specs.ImageTrace.{image_run}
use Rattle.flow_report.specs.Findings.{Denies}
use Rattle.commands.proofs.ReportedRuns.{own_inductive, own_fits, own_holds}
use Rattle.commands.proofs.laws.what_is_reported_never_comes.Goals as goal

pub returns : goal.returns
returns c = λ app findings f i mode es are listed fitted known.
    subst (λ (a : App). All (λ x. Denies a f x → ⊥) (image_run i mode es).steps) fitted.kernel.is
    (c.what_is_denied_never_comes.ensures.image i fitted.forms.table f mode es (own_inductive app i fitted) (own_fits app i fitted) (own_holds app i fitted are.table f are.least ((are.exact f).0 listed))
    (subst (λ (a : App). mode.0 < length a.modes) (sym fitted.kernel.is) known))
