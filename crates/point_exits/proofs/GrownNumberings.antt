-- A numbering that grew, and what is known of numbers in it.
use Rattle.std.proofs.Common.{◌∙◌, refl, sym, subst}
use Rattle.osek_standard.specs.{declared.{app.App.{App}, point.Point.{Point}}, Points.{IsPoint}}
use Rattle.flow_model.specs.Effects.{AreAllAllowed}
use Rattle.numbered_sets.specs.{declared.numbered_entry.NumberedEntry.{NumberedEntry}, Views.{plain_entry}}
use Rattle.numbered_sets.proofs.{NumberingLaws.{longer_itself, longer_onward}, ViewLaws.{same_view, still_known}}
use Rattle.point_exits.specs.{declared.numbering.Numbering.{Numbering}, Growing.{IsGrown}, PointNumbers.{AreNumbersAt}}

pub grown_itself : (x : Numbering) → IsGrown x x
grown_itself x = record { app = refl; pool = longer_itself x.pool }

pub grown_onward : (x y z : Numbering) → IsGrown x y → IsGrown y z → IsGrown x z
grown_onward x y z first then = record { app = then.app ∙ first.app; pool = longer_onward x.pool y.pool z.pool first.pool then.pool }

-- numbers of values that a state at a point can have stay such numbers
pub still_at : (x y : Numbering) → IsGrown x y → (p : Point) (entry : NumberedEntry) → AreNumbersAt x.app.now p x.pool entry → AreNumbersAt y.app.now p y.pool entry
still_at x y grown p entry at = record {
  point = subst (λ (app : App). IsPoint app p) (sym grown.app) at.point;
  numbers = still_known x.pool y.pool entry grown.pool at.numbers;
  filled = at.filled;
  allowed =
      subst (λ (app : App). AreAllAllowed app p (plain_entry y.pool entry)) (sym grown.app)
      (subst (AreAllAllowed x.app.now p) (sym (same_view x.pool y.pool entry grown.pool at.numbers)) at.allowed);
}
