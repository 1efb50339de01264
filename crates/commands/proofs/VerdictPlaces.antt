-- What a verdict names is the application's.
use Rattle.std.proofs.Common.{subst}
use Rattle.osek_standard.specs.Points.{IsPoint}
use Rattle.image_model.specs.declared.image.Image.{Image}
use Rattle.abstract_state.specs.Tables.{Sets}
use Rattle.abstract_state.proofs.AllowedLaws.{well_point}
use Rattle.flow_check.specs.{declared.verdict.Verdict.{Verdict}, Verdicts.{IsVerdict}}
use Rattle.flow_check.specs.declared.verdict.Verdict.TheVariants as verdict
use Rattle.commands.specs.Checking.{HasKnownPlace}

pub place_of : (i : Image) (table : Sets) (v : Verdict) → IsVerdict i table v → HasKnownPlace i.app v
place_of i table verdict.Yes h = tt
place_of i table (verdict.N1 m) h = h.mode
place_of i table (verdict.N2 p) h = subst (IsPoint i.app) h.leaves.at (well_point i.app h.leaves.from h.leaves.inside.well)
place_of i table (verdict.N3 b) h = tt
place_of i table (verdict.N4 b) h = tt
