-- the right tasks are inside at the start
use Rattle.std.proofs.Common.{subst}
use Rattle.osek_standard.specs.{Dispatch.{Stepped}, Internal.{IsInside}}
use Rattle.osek_standard.proofs.InsideLaws.{start_inside}
use Rattle.image_run.proofs.machine.Machine.start.Goals as goal

pub invariant_of-machine : goal.invariant_of-machine
invariant_of-machine c =
    let started = c.in-Ok.ensures in
    let app = c.args.image.app in
    record {
      state = started.well;
      inside = subst (λ (x : Stepped). IsInside app x.state) started.start (start_inside app c.args.mode c.requires);
      ready = c.of-ready.ensures;
    }
