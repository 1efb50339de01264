use Rattle.flow_check.specs.Fitting.{AreFormsFit}
use Rattle.flow_check.proofs.fitting.first_form_unfit.Given as goal

abbrev pub invariant-loop-block : goal.invariant-loop-block
invariant-loop-block l = AreFormsFit l.image.sites l.found l.block
