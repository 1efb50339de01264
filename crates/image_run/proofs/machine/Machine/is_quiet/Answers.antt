-- where it runs quietly
use Rattle.std.proofs.Common.{◌≡◌, sym, subst, Some}
use Rattle.image_model.specs.ImageStep.{image_step}
use Rattle.image_run.specs.{Machines.{AtWork}, Quiet.{IsQuiet, KeepsTasks}}
use Rattle.image_run.proofs.QuietSteps.{steps_quietly}
use Rattle.image_run.proofs.machine.Machine.is_quiet.Goals as goal

pub returns-in-Run : goal.returns-in-Run
returns-in-Run c r quiet step =
    let m = c.self.inside in
    let there : IsQuiet m.image m.state c.args.event = subst (IsQuiet m.image m.state) (sym c.in-Run.is) (c.runs_quietly.ensures quiet) in
    subst (λ (w : AtWork). image_step w.image w.state c.args.event ≡ Some r → KeepsTasks w.state r.state) c.self.view_is
    (λ inside. steps_quietly m.image m.state c.self.invariant.state c.args.event r there inside) step
