-- by the instruction that is due
use Rattle.std.proofs.Common.{◌≡◌, subst, Some}
use Rattle.image_model.specs.ImageStep.{image_step}
use Rattle.image_run.specs.{Machines.{AtWork}, Quiet.{ChangesFew}}
use Rattle.image_run.proofs.FewSteps.{changes_few}
use Rattle.image_run.proofs.machine.Machine.named.Goals as goal

pub returns-clause-changes : goal.returns-clause-changes
returns-clause-changes c e r step =
    let m = c.self.inside in
    subst (λ (w : AtWork). image_step w.image w.state e ≡ Some r → ChangesFew c.named_task.result w.state r.state) c.self.view_is
    (λ inside. changes_few m.image m.state c.named_task.result c.named_task.ensures.named e r inside) step
