use Rattle.flow_check.specs.Fitting.{AreKnownsFit}
use Rattle.flow_check.proofs.fitting.first_known_unfit.Given as goal

abbrev pub invariant-loop-block : goal.invariant-loop-block
invariant-loop-block l = AreKnownsFit l.image.sites l.found l.block
