use Rattle.image_model.proofs.GeneralSites.{AreFirstSites}
use Rattle.image_model.proofs.forms.general.Given as goal

abbrev pub invariant-loop-block : goal.invariant-loop-block
invariant-loop-block l = AreFirstSites l.app l.block l.sites.items
