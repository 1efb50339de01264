-- and after each step
use Rattle.osek_standard.specs.Dispatch.{stepped}
use Rattle.image_run.proofs.InsideSteps.{step_is_right}
use Rattle.image_run.proofs.machine.Machine.step_into.Goals as goal

pub invariant_of-self : goal.invariant_of-self
invariant_of-self g c =
    let m = c.self.inside in
    let did = c.if-image_step.ensures in
    record {
      state = did.well;
      inside = step_is_right m.image m.state c.self.invariant.state c.self.invariant.inside c.args.event (stepped c.image_step.new.state c.image_step.new.notes) did.step;
      ready = did.ready;
    }
